-- What the programs `lower` and `lower_all` print (README.md, 'Two commands' and 'A whole file at once'). Assumes nothing.
use Rattle.std.specs.Prelude.{ℕ, List, ◌==◌, codes, Option, Result, if◌then◌else◌}
use Rattle.definitions.specs.Bytes.{Text}
use Rattle.definitions.specs.Answer.{Lowered}
use Rattle.console.specs.Writes.{Writes, number_line}

-- the lines, or a line `refused=N`
abbrev pub answer_text : Lowered → Text
answer_text r = if r.answered == 0 then r.lines else number_line (codes "refused") r.answered

-- this is printed
abbrev pub Answers : {A E : Type 0} → Result A E → Option (List ℕ) → Option (List ℕ) → Lowered → Type 0
Answers r old new a = Writes r old new (answer_text a)
