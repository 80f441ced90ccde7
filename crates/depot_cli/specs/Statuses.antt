-- The exit status of each way in which a run ends, and how the runs of a script and of a server end as a status.
use Rattle.std.specs.Prelude.{ℕ}
use Rattle.depot_session.specs.declared.server_ending.ServerEnding.{ServerEnding}
use Rattle.depot_session.specs.declared.server_ending.ServerEnding.TheVariants as served
use Rattle.depot_session.specs.declared.ending.ScriptEnding.{ScriptEnding}
use Rattle.depot_session.specs.declared.ending.ScriptEnding.TheVariants as ending
use Rattle.depot_cli.specs.declared.status.Status.{Status}
use Rattle.depot_cli.specs.declared.status.Status.TheVariants.{Done, Words, Input, Shelf, Disk, Sink, Memory, NoProof, Limit, NotLawful, Identity, Broken, Source}

abbrev pub number_of_status : Status → ℕ
number_of_status Done = 0
number_of_status Words = 1
number_of_status Input = 2
number_of_status Shelf = 3
number_of_status Disk = 4
number_of_status Sink = 5
number_of_status Memory = 6
number_of_status NoProof = 7
number_of_status Limit = 8
number_of_status NotLawful = 9
number_of_status Identity = 10
number_of_status Broken = 11
number_of_status Source = 13

abbrev pub status_of : ScriptEnding → Status
status_of ending.Done = Done
status_of ending.Input = Input
status_of ending.Shelf = Shelf
status_of ending.Disk = Disk
status_of ending.Sink = Sink
status_of ending.Memory = Memory
status_of ending.Limit = Limit
status_of ending.NotLawful = NotLawful
status_of ending.Identity = Identity

abbrev pub status_of_server : ServerEnding → Status
status_of_server served.Done = Done
status_of_server served.Memory = Memory
status_of_server served.Source = Source
status_of_server served.Disk = Disk
status_of_server served.Sink = Sink
status_of_server (served.Input at within) = Input
status_of_server served.NotLawful = NotLawful
status_of_server served.Identity = Identity
