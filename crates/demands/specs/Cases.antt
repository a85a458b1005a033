-- The specification's starred cases, 1 to 10, as one table with one statement over it: what every call on such a list answers and leaves, proved by
-- computing the definitions.
use Rattle.std.specs.Prelude.{◌≡◌, refl, true, false, List, [], ◌∷◌, ◌++◌, ℕ, ◌*◌, ◌≤◌, ℤ, pos, neg_ℤ, length, take, drop, replicate, Ok}
use Rattle.std.proofs.Common.{ap, ◌∙◌, arith}
use Rattle.lines.specs.Line.{line_at, lines_of, is_false_lem}
use Rattle.lines.specs.Refusal.{line_tests, lines_validity_lem, validity_of}
use Rattle.steps.specs.declared.Step.{Step}
use Rattle.steps.specs.Point.{opposite}
use Rattle.steps.specs.Table.{entry, digit}
use Rattle.steps.specs.Step.{step_of, step_numbered_lem, steps_of}
use Rattle.steps.specs.Walk.{total, Names}
use Rattle.check_answers.specs.declared.CheckAnswer.TheVariants.{Yes as accepted-yes}
use Rattle.check_refutation.specs.Progress.{head_size, counts_ok_lem, is_false_step_lem, head_on, joins, turns, along, advance, run, closes, accepted}
use Rattle.check_refutation.specs.Answer.{verdict, refutation_validity, refutation_answer}
use Rattle.check_soundness.specs.Head.{kind_of, first_count, steps_in}
use Rattle.check_soundness.specs.Answered.{accepted_when}
use Rattle.theory_walks.specs.Row.{relax_row, start_row_lem, rounds, row_at, best}
use Rattle.theory_walks.specs.Negative.{no_negative}
use Rattle.theory_bounds.specs.Points.{assign}
use Rattle.theory_bounds.specs.Near.{above, at_most, near}
use Rattle.theory_bounds.specs.Tight.{halves, tight}
use Rattle.theory_bounds.specs.Extend.{limit, pick}
use Rattle.theory_bounds.specs.Model.{model}
use Rattle.theory_bounds.specs.Table.{table_model}
use Rattle.lines.specs.Limits.{absent_least, absent_greatest}
use Rattle.theory_bounds.specs.Verdict.{has_false, first_false_lem, consistent_halves, verdict_of, due_kind}
use Rattle.theory_bounds.specs.Answers.{model_of, bounds_of, groups_of}
use Rattle.theory_answers.specs.Refuted.{Due}
use Rattle.decide_buffers.specs.Room.{Lent, model_room_lem, bounds_room_lem, groups_room_lem, refutation_room_lem, work_room_lem}
use Rattle.decide.specs.declared.Answer.TheVariants.{Yes, No}
use Rattle.decide.specs.Decided.{OnYes, OnNo}
use Rattle.demands.specs.Calls.{Call, verdict_yes, verdict_no, on_yes as call-on-yes, on_no as call-on-no}

-- what is written on a yes: model, bounds, groups; on a no: a refutation, here the one that the specification names, and the sums of its walks
pub data Expected : Type 0 where
  on_yes : (model bounds : List ℤ) (groups : List ℕ) → Expected
  on_no : (refutation : List ℕ) (sums : List ℤ) → Expected

pub record Case : Type 0 where
  pub n : ℕ
  pub list : List ℤ
  pub expected : Expected

-- ---- the statement
-- the steps with these numbers, and their sum
abbrev pub SumsTo : List ℤ → List ℕ → ℤ → Type 0
SumsTo L ks z = (ts : List Step) × Names L ks ts × (total ts ≡ z)

-- the sums of a refutation's walks: S, or S and T; kind 3 has none
abbrev pub WalkSums : List ℤ → List ℕ → List ℤ → Type 0
WalkSums L R [] = kind_of R ≡ 3
WalkSums L R (S ∷ []) = SumsTo L (drop head_size R) S
WalkSums L R (S ∷ T ∷ zs) = SumsTo L (take (first_count R) (drop head_size R)) S × SumsTo L (drop (first_count R) (drop head_size R)) T

-- what a call answers and leaves: on a yes all lent buffers are told, the work area's zeros among them; on a no what the promise asks, and the
-- refutation named is one that it allows
abbrev pub Gives : (n : ℕ) (L : List ℤ) → Call n L → Expected → Type 0
Gives n L c (on_yes m b g) =
    (c.answer ≡ Ok Yes)
    × (c.after
    ≡ record {
      model = m ++ drop (model_room_lem n) c.before.model;
      bounds = b ++ drop (bounds_room_lem n) c.before.bounds;
      groups = g ++ drop (groups_room_lem n) c.before.groups;
      refutation = c.before.refutation;
      identifiers = c.before.identifiers;
      work = replicate (work_room_lem n) (pos 0) ++ drop (work_room_lem n) c.before.work;
    })
Gives n L c (on_no R sums) = (c.answer ≡ Ok No) × OnNo n L c.before c.after × Due n L R × WalkSums L R sums

-- the list is valid for its n, and every call gives what is expected
abbrev pub Holds : Case → Type 0
Holds c = (validity_of c.n c.list ≡ Ok tt) × ((k : Call c.n c.list) → Gives c.n c.list k c.expected)

abbrev pub AllHold : List Case → Type 0
AllHold [] = Unit {0}
AllHold (c ∷ cs) = Holds c × AllHold cs

-- ---- the table
abbrev minus : ℕ → ℤ
minus k = neg_ℤ (pos k)

-- the lists of cases 4, 8 and 9, which wrong versions are tried on
abbrev pub list_4 : List ℤ
list_4 =
    pos 1 ∷ pos 0 ∷ minus 1 ∷ pos 1 ∷ pos 2 ∷ pos 0
    ∷ pos 1 ∷ pos 0 ∷ pos 1 ∷ pos 1 ∷ minus 1 ∷ pos 0
    ∷ minus 1 ∷ pos 0 ∷ minus 1 ∷ pos 2 ∷ minus 4 ∷ pos 0
    ∷ minus 1 ∷ pos 0 ∷ pos 1 ∷ pos 2 ∷ pos 3 ∷ pos 0
    ∷ []

abbrev pub list_8 : List ℤ
list_8 =
    pos 1 ∷ pos 0 ∷ pos 0 ∷ pos 0 ∷ pos 3 ∷ pos 0
    ∷ minus 1 ∷ pos 0 ∷ pos 0 ∷ pos 0 ∷ minus 4 ∷ pos 0
    ∷ []

abbrev list_7 : List ℤ
list_7 = pos 1 ∷ pos 0 ∷ minus 1 ∷ pos 0 ∷ minus 1 ∷ pos 0 ∷ []

abbrev pub list_9 : List ℤ
list_9 = minus 1 ∷ pos 0 ∷ minus 1 ∷ pos 0 ∷ minus 7 ∷ pos 0 ∷ []

unfoldable pub cases : List Case
cases =
    -- 1
    record { n = 0; list = []; expected = on_yes [] [] [] }
    -- 2
    ∷ record { n = 1; list = []; expected = on_yes (pos 0 ∷ []) (absent_least ∷ absent_greatest ∷ []) (0 ∷ 0 ∷ []) }
    -- 3, and with d = 0
    ∷ record { n = 0; list = pos 0 ∷ pos 0 ∷ pos 0 ∷ pos 0 ∷ minus 1 ∷ pos 0 ∷ []; expected = on_no (3 ∷ 1 ∷ 0 ∷ 0 ∷ []) [] }
    ∷ record { n = 0; list = pos 0 ∷ pos 0 ∷ pos 0 ∷ pos 0 ∷ pos 0 ∷ pos 0 ∷ []; expected = on_yes [] [] [] }
    -- 4
    ∷ record { n = 3; list = list_4; expected = on_no (2 ∷ 2 ∷ 2 ∷ 0 ∷ 3 ∷ 4 ∷ 7 ∷ []) (pos 1 ∷ minus 1 ∷ []) }
    -- 5
    ∷ record {
      n = 3;
      list =
          pos 1 ∷ pos 0 ∷ minus 1 ∷ pos 1 ∷ pos 2 ∷ pos 0
          ∷ pos 1 ∷ pos 0 ∷ pos 1 ∷ pos 1 ∷ minus 1 ∷ pos 0
          ∷ minus 1 ∷ pos 0 ∷ minus 1 ∷ pos 2 ∷ minus 4 ∷ pos 0
          ∷ [];
      expected = on_yes (pos 0 ∷ minus 1 ∷ pos 4 ∷ []) (absent_least ∷ pos 0 ∷ absent_least ∷ absent_greatest ∷ pos 4 ∷ absent_greatest ∷ []) (0 ∷ 0 ∷ 1 ∷ 0 ∷ 2 ∷ 0 ∷ []);
    }
    -- 6
    ∷ record {
      n = 2;
      list =
          pos 1 ∷ pos 0 ∷ pos 1 ∷ pos 0 ∷ pos 1 ∷ pos 0
          ∷ minus 1 ∷ pos 0 ∷ minus 1 ∷ pos 0 ∷ pos 1 ∷ pos 0
          ∷ pos 1 ∷ pos 1 ∷ pos 1 ∷ pos 1 ∷ pos 1 ∷ pos 0
          ∷ minus 1 ∷ pos 1 ∷ minus 1 ∷ pos 1 ∷ pos 1 ∷ pos 0
          ∷ [];
      expected = on_yes (pos 0 ∷ pos 0 ∷ []) (pos 0 ∷ pos 0 ∷ pos 0 ∷ pos 0 ∷ []) (0 ∷ 0 ∷ 0 ∷ 0 ∷ []);
    }
    -- 7, and with d = 0
    ∷ record { n = 1; list = list_7; expected = on_no (1 ∷ 1 ∷ 0 ∷ 0 ∷ []) (minus 1 ∷ []) }
    ∷ record { n = 1; list = pos 1 ∷ pos 0 ∷ minus 1 ∷ pos 0 ∷ pos 0 ∷ pos 0 ∷ []; expected = on_yes (pos 0 ∷ []) (absent_least ∷ absent_greatest ∷ []) (0 ∷ 0 ∷ []) }
    -- 8, and with the second d -3
    ∷ record { n = 1; list = list_8; expected = on_no (1 ∷ 2 ∷ 0 ∷ 0 ∷ 2 ∷ []) (minus 2 ∷ []) }
    ∷ record {
      n = 1;
      list =
          pos 1 ∷ pos 0 ∷ pos 0 ∷ pos 0 ∷ pos 3 ∷ pos 0
          ∷ minus 1 ∷ pos 0 ∷ pos 0 ∷ pos 0 ∷ minus 3 ∷ pos 0
          ∷ [];
      expected = on_yes (pos 3 ∷ []) (pos 3 ∷ pos 3 ∷ []) (0 ∷ 0 ∷ []);
    }
    -- 9
    ∷ record { n = 1; list = list_9; expected = on_yes (pos 4 ∷ []) (pos 4 ∷ absent_greatest ∷ []) (0 ∷ 0 ∷ []) }
    -- 10
    ∷ record {
      n = 2;
      list =
          pos 1 ∷ pos 0 ∷ minus 1 ∷ pos 1 ∷ pos 0 ∷ pos 0
          ∷ minus 1 ∷ pos 0 ∷ pos 1 ∷ pos 1 ∷ pos 0 ∷ pos 0
          ∷ [];
      expected = on_yes (pos 0 ∷ pos 0 ∷ []) (absent_least ∷ absent_greatest ∷ absent_least ∷ absent_greatest ∷ []) (0 ∷ 0 ∷ 0 ∷ 0 ∷ []);
    }
    ∷ []

-- ---- the proof
-- on a yes: what is computed is what every call leaves
leaves_yes : {n : ℕ} {L : List ℤ} {b a : Lent} → OnYes n L b a → (m bs : List ℤ) (g : List ℕ) → model_of n (lines_of L) ≡ m → bounds_of n (lines_of L) ≡ bs → groups_of n (lines_of L) ≡ g
    → a
    ≡ record {
      model = m ++ drop (model_room_lem n) b.model;
      bounds = bs ++ drop (bounds_room_lem n) b.bounds;
      groups = g ++ drop (groups_room_lem n) b.groups;
      refutation = b.refutation;
      identifiers = b.identifiers;
      work = replicate (work_room_lem n) (pos 0) ++ drop (work_room_lem n) b.work;
    }
leaves_yes {n} {L} {b} {a} w m bs g e f h =
    λ t.
    record {
      model = (w.model ∙ ap (λ (x : List ℤ). x ++ drop (model_room_lem n) b.model) e) t;
      bounds = (w.bounds ∙ ap (λ (x : List ℤ). x ++ drop (bounds_room_lem n) b.bounds) f) t;
      groups = (w.groups ∙ ap (λ (x : List ℕ). x ++ drop (groups_room_lem n) b.groups) h) t;
      refutation = w.refutation t;
      identifiers = w.identifiers t;
      work = w.work t;
    }

gives_yes : (n : ℕ) (L m bs : List ℤ) (g : List ℕ) → verdict_of n (lines_of L) ≡ true → model_of n (lines_of L) ≡ m → bounds_of n (lines_of L) ≡ bs → groups_of n (lines_of L) ≡ g
    → (c : Call n L) → Gives n L c (on_yes m bs g)
gives_yes n L m bs g v e f h c = let y = verdict_yes c v in (y, leaves_yes (call-on-yes c y) m bs g e f h)

-- on a no: the refutation is accepted, of the due kind, and short
due_here : (n : ℕ) (L : List ℤ) (R : List ℕ) → refutation_answer n L R ≡ Ok accepted-yes → kind_of R ≡ due_kind n (lines_of L)
    → (due_kind n (lines_of L) ≡ 3 → R ≡ 3 ∷ 1 ∷ 0 ∷ 2 * first_false_lem 0 (lines_of L) ∷ []) → ((due_kind n (lines_of L) ≡ 3 → ⊥) → steps_in R ≤ 4 * n) → length R ≤ refutation_room_lem n → Due n L R
due_here n L R e k l f s = record { refutes = ((accepted_when n L R).0 e).2; kind = k; lowest = l; few = f; size = s }

gives_no : (n : ℕ) (L : List ℤ) (R : List ℕ) (sums : List ℤ) → verdict_of n (lines_of L) ≡ false → Due n L R → WalkSums L R sums → (c : Call n L) → Gives n L c (on_no R sums)
gives_no n L R sums v d w c = let y = verdict_no c v in (y, call-on-no c y, d, w)

-- the steps of the walks that the cases of a no name
sums_4 : WalkSums list_4 (2 ∷ 2 ∷ 2 ∷ 0 ∷ 3 ∷ 4 ∷ 7 ∷ []) (pos 1 ∷ minus 1 ∷ [])
unfolding step_numbered_lem step_of line_at entry digit
sums_4 = (
  (record { from = 0; to = 2; weight = pos 2 } ∷ record { from = 2; to = 1; weight = minus 1 } ∷ [], (refl, (refl, tt)), refl),
  (record { from = 1; to = 4; weight = minus 4 } ∷ record { from = 4; to = 0; weight = pos 3 } ∷ [], (refl, (refl, tt)), refl),
)

sum_7 : WalkSums list_7 (1 ∷ 1 ∷ 0 ∷ 0 ∷ []) (minus 1 ∷ [])
unfolding step_numbered_lem step_of line_at entry digit
sum_7 = (record { from = 0; to = 0; weight = minus 1 } ∷ [], (refl, tt), refl)

sum_8 : WalkSums list_8 (1 ∷ 2 ∷ 0 ∷ 0 ∷ 2 ∷ []) (minus 2 ∷ [])
unfolding step_numbered_lem step_of line_at entry digit
sum_8 = (record { from = 0; to = 1; weight = pos 6 } ∷ record { from = 1; to = 0; weight = minus 8 } ∷ [], (refl, (refl, tt)), refl)

-- one case's proof before those of the cases after it
infixr 20 ◌then◌
◌then◌ : {A B : Type 0} → A → B → A × B
a then b = (a, b)

pub all_cases : AllHold cases
unfolding cases line_tests lines_validity_lem validity_of line_at is_false_lem
    opposite entry digit step_of step_numbered_lem steps_of
    counts_ok_lem is_false_step_lem head_on joins turns along advance run closes accepted verdict refutation_validity refutation_answer
    relax_row start_row_lem rounds row_at best no_negative
    assign above at_most near halves tight limit pick model table_model
    has_false first_false_lem consistent_halves verdict_of due_kind model_of bounds_of groups_of
all_cases =
    (refl, gives_yes _ _ _ _ _ refl refl refl refl)
    then (refl, gives_yes _ _ _ _ _ refl refl refl refl)
    then (refl, gives_no _ _ _ [] refl (due_here _ _ _ refl refl (λ _. refl) (λ z. absurd (z refl)) (omega arith)) refl)
    then (refl, gives_yes _ _ _ _ _ refl refl refl refl)
    then (refl, gives_no _ _ _ (pos 1 ∷ minus 1 ∷ []) refl (due_here _ _ _ refl refl (λ z. absurd (omega arith)) (λ _. omega arith) (omega arith)) sums_4)
    then (refl, gives_yes _ _ _ _ _ refl refl refl refl)
    then (refl, gives_yes _ _ _ _ _ refl refl refl refl)
    then (refl, gives_no _ _ _ (minus 1 ∷ []) refl (due_here _ _ _ refl refl (λ z. absurd (omega arith)) (λ _. omega arith) (omega arith)) sum_7)
    then (refl, gives_yes _ _ _ _ _ refl refl refl refl)
    then (refl, gives_no _ _ _ (minus 2 ∷ []) refl (due_here _ _ _ refl refl (λ z. absurd (omega arith)) (λ _. omega arith) (omega arith)) sum_8)
    then (refl, gives_yes _ _ _ _ _ refl refl refl refl)
    then (refl, gives_yes _ _ _ _ _ refl refl refl refl)
    then (refl, gives_yes _ _ _ _ _ refl refl refl refl)
    then tt
