-- What the checker of showings says by a yes: nothing is refused and the numbers are a showing; so every solution of the list meets the line, whoever proposed
-- it, and each valid longer list is answered the same.
use Rattle.std.specs.Prelude.{◌≡◌, ◌↔◌, List, ◌++◌, ℕ, ◌≤◌, ℤ, length, Ok}
use Rattle.std.proofs.Common.{ap, le-ltb}
use Rattle.lines.specs.declared.Line.{Line}
use Rattle.lines.specs.Limits.{max_refutation}
use Rattle.lines.specs.Line.{line_count, lines_of, Implies}
use Rattle.lines.specs.Refusal.{validity_of}
use Rattle.lines.specs.Valid.{valid_list, shown_anywhere}
use Rattle.check_answers.specs.declared.CheckAnswer.TheVariants.{Yes}
use Rattle.check_answers.specs.Answer.{unrefused}
use Rattle.check_refutation.specs.Progress.{start, run, accepts}
use Rattle.check_soundness.specs.Meaning.{accepts_exactly}
use Rattle.check_soundness.specs.Answered.{verdict_yes}
use Rattle.shown_list.specs.Against.{against}
use Rattle.shown_list.specs.Shown.{Shows, shown_met, shown_longer}
use Rattle.check_shown.specs.Answer.{showing_validity_lem, shown_answer}
use Rattle.check_shown.specs.Asked.{ShownAsked, asked, list_ok, works}

-- nothing is refused, and the numbers are a showing
pub record Accepted (n : ℕ) (L : List ℤ) (l : Line) (R : List ℕ) : Type 0 where
  pub asked : ShownAsked n L l
  pub short : length R ≤ max_refutation
  pub shows : Shows L l R

module _ (n : ℕ) (L : List ℤ) (l : Line) (R : List ℕ) where
  pub shown_yes : (shown_answer n L l R ≡ Ok Yes) ↔ Accepted n L l R
  unfolding shown_answer showing_validity_lem accepts
  shown_yes = (
    (λ e.
        let u = (unrefused (showing_validity_lem n L l (length R)) _ (Ok Yes) tt).0 e in
        let a = asked n L l (length R) u.0 in
        record { asked = a.asked; short = a.short; shows = (accepts_exactly (against L l) R).0 ((verdict_yes (run (against L l) start R)).0 (let same = u.1 in cc)) }),
    (λ a.
        rw (a.asked.list, a.asked.line, le-ltb max_refutation (length R) a.short)
        (ap Ok ((verdict_yes (run (against L l) start R)).1 ((accepts_exactly (against L l) R).1 a.shows)))),
  )

  -- every solution meets the line
  pub accepted_met : shown_answer n L l R ≡ Ok Yes → Implies (lines_of L) l
  accepted_met e =
      let a = shown_yes.0 e in
      let o = list_ok n L l a.asked in
      shown_met n L o.whole o.count l (works n L l a.asked) R a.shows

-- a longer list
pub accepted_longer : (n : ℕ) (L M : List ℤ) (l : Line) (R : List ℕ) → validity_of n (L ++ M) ≡ Ok tt → shown_answer n L l R ≡ Ok Yes → shown_answer n (L ++ M) l R ≡ Ok Yes
accepted_longer n L M l R v e =
    let a = (shown_yes n L l R).0 e in
    let o = list_ok n L l a.asked in
    let m = valid_list n (L ++ M) v in
    (shown_yes n (L ++ M) l R).1
    (record {
      asked = record { list = v; line = shown_anywhere n (line_count L) (line_count (L ++ M)) l a.asked.line };
      short = a.short;
      shows = shown_longer L M o.whole m.count m.whole l R a.shows;
    })
