-- Why a feed was closed, as a caller says it.
use Rattle.std.specs.Prelude.{Option, Some, None}
use Rattle.depot_answers.specs.declared.exchange_answers.Closing.{Closing}
use Rattle.depot_answers.specs.declared.exchange_answers.Closing.TheVariants.{IllFormed, Full}
use Rattle.depot_model.specs.exchange.Feeding.{ill_formed, out_of_room}
use Rattle.depot_model.specs.exchange.Feeding as feeding

-- what that is for a feed
abbrev pub closing_of : Option Closing → Option feeding.Closing
closing_of None = None
closing_of (Some (IllFormed at)) = Some (ill_formed at)
closing_of (Some (Full f)) = Some (out_of_room f)
