-- The situation of a client, as the code has it, in the model's words.
use Rattle.model.specs.Situations as model
use Rattle.table.specs.declared.Situation.{Situation}
use Rattle.table.specs.declared.Situation.TheVariants.{NoCache, Nothing, Everything, Partly}

abbrev pub situation_of : Situation → model.Situation
situation_of NoCache = model.no_cache
situation_of Nothing = model.nothing
situation_of Everything = model.everything
situation_of Partly = model.partly
