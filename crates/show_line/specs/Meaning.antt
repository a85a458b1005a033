-- Every solution of a list meets a line exactly if the checker accepts some showing of it; then it accepts a short one of the due kind.
use Rattle.std.specs.Prelude.{◌≡◌, ◌↔◌, true, false, List, ℕ, ℤ, Ok}
use Rattle.std.proofs.Common.{arith}
use Rattle.lines.specs.declared.Line.{Line}
use Rattle.lines.specs.Line.{lines_of, Implies, Breaks}
use Rattle.check_answers.specs.declared.CheckAnswer.TheVariants.{Yes}
use Rattle.theory_bounds.specs.Verdict.{verdict_of}
use Rattle.theory_answers.specs.Refuted.{Due, due_refutation}
use Rattle.theory_answers.specs.Decided.{Some, yes_solvable, unsolvable_no}
use Rattle.shown_list.specs.Against.{against, solves_against}
use Rattle.check_shown.specs.Answer.{shown_answer}
use Rattle.check_shown.specs.Asked.{ShownAsked, list_ok, works}
use Rattle.check_shown.specs.Meaning.{shown_yes, accepted_met}

module _ (n : ℕ) (L : List ℤ) (l : Line) (a : ShownAsked n L l) where
  -- a due refutation of the list against the line is a showing that the checker accepts
  pub due_shown : (R : List ℕ) → Due n (against L l) R → shown_answer n L l R ≡ Ok Yes
  due_shown R d = (shown_yes n L l R).1 (record { asked = a; short = omega (arith, d.size, (list_ok n L l a).variables); shows = d.refutes })

  pub implied_no : Implies (lines_of L) l → verdict_of n (lines_of (against L l)) ≡ false
  implied_no met =
      let o = list_ok n L l a in
      unsolvable_no n (against L l) (works n L l a)
      (λ s. let q = (solves_against L o.whole o.count l s.assignment).0 s.solves in q.1 (met s.assignment q.0))

  pub open_breaks : verdict_of n (lines_of (against L l)) ≡ true → Breaks (lines_of L) l
  open_breaks e =
      let o = list_ok n L l a in
      let s = yes_solvable n (against L l) (works n L l a) e in
      let q = (solves_against L o.whole o.count l s.assignment).0 s.solves in
      record { assignment = s.assignment; solves = q.0; breaks = q.1 }

  pub shown_exactly_if_implied : Some (λ R. shown_answer n L l R ≡ Ok Yes) ↔ Implies (lines_of L) l
  shown_exactly_if_implied = (
    (λ r. accepted_met n L l r.0 r.1),
    (λ met. let d = due_refutation n (against L l) (implied_no met) in (d.0, due_shown d.0 d.1)),
  )
