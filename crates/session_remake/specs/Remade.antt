-- What is known of the lines of a state made anew from them without the last, whatever stands in the state; and that it is known of these lines, where they
-- have a solution.
use Rattle.std.specs.Prelude.{◌≡◌, refl, true, List, ℕ, ◌*◌, ◌-◌, ◌≤◌, ℤ, length, take, Err, Ok, Result}
use Rattle.std.proofs.Common.{sym, ◌∙◌}
use Rattle.std.proofs.Math.Path.{ap}
use Rattle.lines.specs.declared.Line.{Line}
use Rattle.lines.specs.declared.Refusal.{Refusal}
use Rattle.lines.specs.Limits.{line_size, max_variables}
use Rattle.lines.specs.Line.{lines_of, numbers_of}
use Rattle.lines.specs.LineNumbers.{lines_of_numbers}
use Rattle.lines.specs.Refusal.{validity_of}
use Rattle.lines.specs.Valid.{workable, modellable}
use Rattle.theory_bounds.specs.Verdict.{verdict_of}
use Rattle.session_known.specs.Known.{known_anew_lem, anew_known_size}
use Rattle.session_known.specs.Meaning.{known_anew}
use Rattle.session_state.specs.State.{known_room, session_room_lem, known_for, variables_in, count_in, numbers_in, known_in, with_known}
use Rattle.session_state.specs.Laws.{with_own, length_known_in}

-- ---- definitions
-- the numbers of the lines before the last
abbrev pub numbers_before : List ℤ → List ℤ
numbers_before s = take (line_size * (count_in s - 1)) (numbers_in s)

-- what is known of valid lines, or what was known, q
abbrev pub remade_by : Result Unit Refusal → ℕ → List ℤ → List ℤ → List ℤ
remade_by (Ok _) n L q = known_anew_lem n L q
remade_by (Err r) n L q = q

unfoldable pub remade_known : List ℤ → List ℤ
remade_known s = remade_by (validity_of (variables_in s) (numbers_before s)) (variables_in s) (numbers_before s) (known_in (variables_in s) s)

-- ---- by what is found of the lines
module _ (s : List ℤ) where
  abbrev n : ℕ
  n = variables_in s

  by_lines : (v : Result Unit Refusal) → validity_of n (numbers_before s) ≡ v → remade_known s ≡ remade_by v n (numbers_before s) (known_in n s)
  unfolding remade_known
  by_lines v e = ap (λ (w : Result Unit Refusal). remade_by w n (numbers_before s) (known_in n s)) e

  pub remade_anew : validity_of (variables_in s) (numbers_before s) ≡ Ok tt → remade_known s ≡ known_anew_lem (variables_in s) (numbers_before s) (known_in (variables_in s) s)
  remade_anew e = by_lines (Ok tt) e

  -- the state stays as it is
  pub remade_not : (r : Refusal) → validity_of (variables_in s) (numbers_before s) ≡ Err r → s ≡ with_known (variables_in s) s (remade_known s)
  remade_not r e = sym (ap (with_known n s) (by_lines (Err r) e) ∙ with_own n s)

  -- it has its size
  pub remade_size : variables_in s ≤ max_variables → session_room_lem (variables_in s) ≤ length s → length (remade_known s) ≡ known_room (variables_in s)
  remade_size few room = go (validity_of n (numbers_before s)) refl
    where
      size : length (known_in (variables_in s) s) ≡ known_room (variables_in s)
      size = length_known_in n s room

      go : (v : Result Unit Refusal) → validity_of n (numbers_before s) ≡ v → length (remade_known s) ≡ known_room n
      go (Ok _) e = ap length (by_lines (Ok tt) e) ∙ anew_known_size n (numbers_before s) (known_in n s) (record { few = few; size = size })
      go (Err r) e = ap length (by_lines (Err r) e) ∙ size

  -- it is known of the lines, where these have a solution
  pub remade_is : (ms : List Line) → numbers_before s ≡ numbers_of ms → validity_of (variables_in s) (numbers_of ms) ≡ Ok tt → verdict_of (variables_in s) ms ≡ true
      → remade_known s ≡ known_for (variables_in s) ms
  remade_is ms e v y =
      let valid : validity_of n (numbers_before s) ≡ Ok tt = ap (validity_of n) e ∙ v in
      let lines : lines_of (numbers_before s) ≡ ms = ap lines_of e ∙ lines_of_numbers ms in
      let verdict : verdict_of n (lines_of (numbers_before s)) ≡ true = ap (verdict_of n) lines ∙ y in
      remade_anew valid
      ∙ known_anew n (numbers_before s) (workable n (numbers_before s) valid) verdict (modellable n (numbers_before s) valid) (known_in n s)
      ∙ ap (known_for n) lines
