-- What a refusal and a ruling of the code mean in the model's words.
use Rattle.std.specs.Prelude.{ℕ, Result, Ok, Err}
use Rattle.model.specs.Rules.{Verdict, passed, broken}
use Rattle.model.specs.Calls.{Answer, answered, refused}
use Rattle.tree_file.specs.declared.rules.Rule.{Rule}
use Rattle.tree_file.specs.declared.rules.Rule.TheVariants.{Header, Mark, Version, Nodes, Budget, Size, Parent, Depth, Length, Flow, Hit, Set, Scratch, Buffers, Program, Site, Cachable, Open}
use Rattle.tree_file.specs.declared.rules.Refusal.{Refusal}

-- the number of a rule in documents 01 and 02
abbrev pub rule_number : Rule → ℕ
rule_number Header = 1
rule_number Mark = 2
rule_number Version = 3
rule_number Nodes = 4
rule_number Budget = 5
rule_number Size = 6
rule_number Parent = 7
rule_number Depth = 8
rule_number Length = 9
rule_number Flow = 10
rule_number Hit = 11
rule_number Set = 12
rule_number Scratch = 13
rule_number Buffers = 14
rule_number Program = 15
rule_number Site = 16
rule_number Cachable = 17
rule_number Open = 24

-- a refusal as a verdict
abbrev pub broken_by : Refusal → Verdict
broken_by e = broken (rule_number e.rule) e.record

-- a ruling as a verdict
abbrev pub verdict_of : {A : Type 0} → Result A Refusal → Verdict
verdict_of (Ok x) = passed
verdict_of (Err e) = broken_by e

-- an answer as the model's, by what its value means there
abbrev pub answer_by : {A B : Type 0} → (A → B) → Result A Refusal → Answer B
answer_by f (Ok x) = answered (f x)
answer_by f (Err e) = refused (rule_number e.rule) e.record
