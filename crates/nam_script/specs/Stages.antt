-- Which lines may come at which stage.
use Rattle.std.specs.Prelude.{ℕ, Bool, ◌||◌, ◌==◌}
use Rattle.nam_script.specs.declared.stage.Stage.{Stage}
use Rattle.nam_script.specs.declared.stage.Stage.TheVariants.{Empty, Version, Header, Workers, Tries, Tidy, Start}
use Rattle.nam_script.specs.declared.stage.Stage.TheVariants.{Overflow, Tables, Rows, Open, Between, Turns, Seed}

-- the stages in their order
abbrev pub rank : Stage → ℕ
rank Empty = 0
rank Version = 1
rank Header = 2
rank Workers = 3
rank Tries = 4
rank Tidy = 5
rank Start = 6
rank Overflow = 7
rank Tables = 8
rank Rows = 9
rank Open = 10
rank Between = 11
rank Turns = 12
rank Seed = 13

abbrev pub is_at : Stage → Stage → Bool
is_at a b = rank a == rank b

abbrev pub takes_table : Stage → Bool
takes_table st = is_at st Overflow || is_at st Tables

abbrev pub takes_row : Stage → Bool
takes_row st = is_at st Tables || is_at st Rows

-- the loaded rows and the transactions so far may be all
abbrev pub is_loaded : Stage → Bool
is_loaded st = takes_row st || is_at st Between

abbrev pub takes_turns : Stage → Bool
takes_turns st = is_loaded st || is_at st Turns

abbrev pub can_end : Stage → Bool
can_end st = takes_turns st || is_at st Seed
