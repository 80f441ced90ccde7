-- What is reported of a reply.
use Rattle.std.specs.Prelude.{Result}
use Rattle.depot_outside.specs.Told.{Shelves, Sinks}
use Rattle.depot_requests.specs.Replies.{lines_of_reply}
use Rattle.depot_requests.specs.declared.reply.Reply.{Reply}
use Rattle.depot_script.specs.declared.command.Command.{Command}
use Rattle.depot_session.specs.declared.ending.ScriptEnding.{ScriptEnding}
use Rattle.depot_session.specs.ScriptTelling.{TellsHanded}
use Rattle.depot_session.specs.Sessions.{command_text, ending_of_reply, handed_over, name_stored}

-- What the reply to a command hands out is stored under the command's name, and then the reply is printed.
abbrev pub TellsReply : Shelves → Sinks → Command → Reply → Result (Unit {0}) ScriptEnding → Type 0
TellsReply shelf sink c r result = TellsHanded shelf sink (command_text c (lines_of_reply r)) (ending_of_reply r) (handed_over r) (name_stored c) result
