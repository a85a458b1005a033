-- What the exported questions to a session return.
use Rattle.std.specs.Prelude.{List, ℕ, ℤ}
use Rattle.lines.specs.declared.Line.{Line}
use Rattle.session_asked.specs.Asked.{line_by, pair_by}
use Rattle.c_implied.specs.declared.CPair.{CPair}
use Rattle.c_implied.specs.Calls.{pair_code_lem}
use Rattle.c_implied_line.specs.Calls.{line_code_lem}

abbrev pub line_returned : List ℤ → Line → ℤ
line_returned s l = line_code_lem (line_by s l)

abbrev pub pair_returned : List ℤ → ℕ → ℕ → CPair
pair_returned s x y = pair_code_lem (pair_by s x y)
