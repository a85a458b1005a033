-- The line 0 ≤ 0, which every assignment meets; and a line from its numbers.
use Rattle.std.specs.Prelude.{◌≡◌, refl, List, [], ◌++◌, ℕ, ◌<◌, ℤ, pos, ◌+ℤ◌, replicate, Ok}
use Rattle.std.proofs.Common.{sym, ap, ap₂, subst, ◌∙◌, arith, get_or-take, take_all}
use Rattle.std.proofs.Math.IntN.{zero-*ℤ}
use Rattle.std.proofs.lemmas.List.{length-replicate, get_or-replicate}
use Rattle.integers.specs.Integer.{◌⩽◌}
use Rattle.integers.proofs.Linear.{ints}
use Rattle.integers.specs.Sequence.{tabulate, tabulate_cong, tabulate_get_d}
use Rattle.lines.specs.declared.Line.{Line}
use Rattle.lines.specs.Limits.{line_size}
use Rattle.lines.specs.Line.{number, line_numbers_lem, line_of, Assignment, left_side_lem, Meets}
use Rattle.lines.specs.LineNumbers.{length_numbers, line_of_numbers, numbers_of_line}
use Rattle.lines.specs.Refusal.{line_tests, line_validity_lem}

-- ---- 0 ≤ 0
abbrev pub zero_line : Line
zero_line = line_of (replicate line_size (pos 0))

pub zero_number : (i : ℕ) → i < line_size → number (line_numbers_lem zero_line) i ≡ pos 0
zero_number i h =
    let zeros : List ℤ = replicate line_size (pos 0) in
    ap (λ (N : List ℤ). number N i) (numbers_of_line zeros (omega (arith, length-replicate {A = ℤ} line_size (pos 0))))
    ∙ get_or-take line_size zeros i (pos 0) h
    ∙ get_or-replicate line_size i (pos 0) (pos 0) h

pub zero_met : (s : Assignment) → Meets s zero_line
unfolding left_side_lem
zero_met s = subst (λ (z : ℤ). z ⩽ pos 0) (sym (ap₂ (λ (p q : ℤ). p +ℤ q) (zero-*ℤ (s 0)) (zero-*ℤ (s 0)))) (simp ints (omega arith))

pub zero_valid : (n k : ℕ) → line_validity_lem n k zero_line ≡ Ok tt
unfolding line_tests
zero_valid n k = refl

-- ---- a line is its numbers
all_numbers : (l : Line) → line_numbers_lem l ≡ tabulate line_size (number (line_numbers_lem l))
all_numbers l =
    let size = length_numbers l in
    sym (tabulate_get_d line_size (line_numbers_lem l) (pos 0) (omega (arith, size)) ∙ take_all line_size (line_numbers_lem l) (omega (arith, size)))

pub same_line : (l m : Line) → ((i : ℕ) → i < line_size → number (line_numbers_lem l) i ≡ number (line_numbers_lem m) i) → l ≡ m
same_line l m e =
    let numbers : line_numbers_lem l ≡ line_numbers_lem m = all_numbers l ∙ tabulate_cong line_size _ _ e ∙ sym (all_numbers m) in
    sym (line_of_numbers l []) ∙ ap (λ (N : List ℤ). line_of (N ++ [])) numbers ∙ line_of_numbers m []
