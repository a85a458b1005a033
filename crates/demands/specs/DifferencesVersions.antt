-- Versions of deciding a list of differences that go wrong in one thing, each a definition, and at a named input what breaks the promise. Beside them the
-- version that keeps it, so that those break it only by what they do otherwise.
use Rattle.std.specs.Prelude.{◌≡◌, Bool, true, false, not, cond, ◌&&◌, List, [], ◌∷◌, ◌++◌, ℕ, ◌+◌, ◌-◌, ℤ, pos, neg_ℤ, length, get_or, replicate, Err, Ok, Result}
use Rattle.std.proofs.Common.{sym, ap, arith}
use Rattle.integers.specs.Integer.{eq_z}
use Rattle.integers.specs.Laws.{never}
use Rattle.integers.specs.Table.{all_below}
use Rattle.integers.specs.Lowest.{first_failing_lem}
use Rattle.lines.specs.declared.Line.{Line}
use Rattle.lines.specs.declared.Refusal.{Refusal}
use Rattle.lines.specs.declared.Refusal.TheVariants.{BadConstant, ShortOutput, ShortWorkArea, NotDifference}
use Rattle.lines.specs.Limits.{max_constant}
use Rattle.lines.specs.Line.{line_at, line_count, lines_of}
use Rattle.lines.specs.Refusal.{◌or_else◌, refuse_if, line_tests, lines_validity_lem, validity_of}
use Rattle.theory_walks.specs.Negative.{no_negative}
use Rattle.theory_bounds.specs.Verdict.{has_false, consistent_halves, verdict_of}
use Rattle.theory_differences.specs.Plain.{is_difference_lem, all_differences}
use Rattle.decide_buffers.specs.Room.{Lent, lengths_of, differences_work_room_lem, lent_rooms, first_short}
use Rattle.decide.specs.declared.Answer.TheVariants.{Yes, No}
use Rattle.decide.specs.Decided.{judged}
use Rattle.decide.specs.Parts.{judged_false}
use Rattle.differences_lines.specs.Others.{first_other_lem}
use Rattle.differences_lines.specs.Refused.{others_validity, plain_rooms_validity, differences_validity_lem}
use Rattle.differences.specs.Decided.{differences_answer, differences_answer_for, plain_validity_for, DifferencesLeave, DifferencesDecided, differences_judged}
use Rattle.demands.specs.RightVersion.{Version, outcome, right_yes_in, right_no_in, right_leaves, room_with}

-- the promise, of any version
abbrev pub Keeps : Version → Type 0
Keeps f = (n : ℕ) (L : List ℤ) (b : Lent) → DifferencesDecided n L (f n L b).answer b (f n L b).after

-- ---- the version that keeps it
-- it refuses by v, and else answers and writes right
abbrev refusing_by : (ℕ → List ℤ → Lent → Result Unit Refusal) → Version
refusing_by v n L b = outcome (judged (v n L b) n L) b (right_yes_in (differences_work_room_lem n) n L b) (right_no_in (differences_work_room_lem n) n L b)

pub right : Version
right = refusing_by plain_validity_for

pub right_keeps : Keeps right
unfolding right
right_keeps n L b =
    record {
      is = sym (differences_judged n L b);
      leaves = right_leaves (differences_work_room_lem n) n L b (judged (plain_validity_for n L b) n L) (judged_false n L (plain_validity_for n L b));
    }

-- ---- the inputs: buffers with this work area and else exactly the room needed; lines over x and y
abbrev lent_with : ℕ → List ℤ → Lent
lent_with n work =
    let b = room_with n 0 in
    record { model = b.model; bounds = b.bounds; groups = b.groups; refutation = b.refutation; identifiers = b.identifiers; work = work }

abbrev lent_for : ℕ → Lent
lent_for n = lent_with n (replicate (differences_work_room_lem n) (pos 0))

abbrev line : ℤ → ℤ → ℤ → List ℤ
line a b d = a ∷ pos 0 ∷ b ∷ pos 1 ∷ d ∷ pos 0 ∷ []

-- x + y ≤ 0, x − y ≤ 0, −x + y ≤ 0, x − x ≤ 0
sum : List ℤ
sum = line (pos 1) (pos 1) (pos 0)

forward : List ℤ
forward = line (pos 1) (neg_ℤ (pos 1)) (pos 0)

backward : List ℤ
backward = line (neg_ℤ (pos 1)) (pos 1) (pos 0)

itself : List ℤ
itself = pos 1 ∷ pos 0 ∷ neg_ℤ (pos 1) ∷ pos 0 ∷ pos 0 ∷ pos 0 ∷ []

-- a yes or a no is no refusal
answered : (t : Bool) (r : Refusal) → cond t (Ok Yes) (Ok No) ≡ Err r → ⊥
answered true r e = never (cc)
answered false r e = never (cc)

-- ---- it takes a sum
pub takes_sums : Version
takes_sums = refusing_by (λ n L b. validity_of n L or_else plain_rooms_validity n (lengths_of b))

pub takes_sums_breaks : Keeps takes_sums → ⊥
unfolding takes_sums sum differences_answer differences_validity_lem others_validity all_differences first_other_lem validity_of lines_validity_lem line_tests line_at
takes_sums_breaks k =
    let e : cond (verdict_of 2 (lines_of sum)) (Ok Yes) (Ok No) ≡ Err (NotDifference 0) = (k 2 sum (lent_for 2)).is in
    answered (verdict_of 2 (lines_of sum)) _ e

-- ---- it refuses 60 after 7 and 8
pub refuses_sums_late : Version
refuses_sums_late = refusing_by (λ n L b. validity_of n L or_else plain_rooms_validity n (lengths_of b) or_else others_validity L)

pub refuses_sums_late_breaks : Keeps refuses_sums_late → ⊥
unfolding refuses_sums_late sum differences_answer differences_validity_lem others_validity all_differences first_other_lem validity_of lines_validity_lem line_tests line_at
refuses_sums_late_breaks k = let e : Err (ShortOutput 1) ≡ Err (NotDifference 0) = (k 2 sum (lent_for 0)).is in never (cc)

-- ---- it refuses 60 before the rules of later lines: here a sum, and behind it a line whose d is beyond the limit
pub refuses_sums_early : Version
refuses_sums_early = refusing_by (λ n L b. others_validity L or_else validity_of n L or_else plain_rooms_validity n (lengths_of b))

then_too_large : List ℤ
then_too_large = sum ++ line (pos 1) (neg_ℤ (pos 1)) (pos (max_constant + 1))

pub refuses_sums_early_breaks : Keeps refuses_sums_early → ⊥
unfolding refuses_sums_early then_too_large sum differences_answer differences_validity_lem others_validity all_differences first_other_lem validity_of lines_validity_lem line_tests line_at
refuses_sums_early_breaks k = let e : Err (NotDifference 0) ≡ Err (BadConstant 1) = (k 2 then_too_large (lent_for 2)).is in never (cc)

-- ---- it takes only such differences as pass a test, too
abbrev passes : (Line → Bool) → List ℤ → ℕ → Bool
passes test L k = is_difference_lem (line_at L k) && test (line_at L k)

abbrev taking_only : (Line → Bool) → Version
taking_only test =
    refusing_by
    (λ n L b.
    validity_of n L
    or_else refuse_if (not (all_below (line_count L) (passes test L))) (NotDifference (first_failing_lem (line_count L) (passes test L)))
    or_else plain_rooms_validity n (lengths_of b))

-- x − x is refused
pub refuses_itself : Version
refuses_itself = taking_only (λ l. not (eq_z l.x l.y))

pub refuses_itself_breaks : Keeps refuses_itself → ⊥
unfolding refuses_itself itself differences_answer differences_validity_lem others_validity all_differences first_other_lem validity_of lines_validity_lem line_tests line_at
refuses_itself_breaks k =
    let e : Err (NotDifference 0) ≡ cond (verdict_of 1 (lines_of itself)) (Ok Yes) (Ok No) = (k 1 itself (lent_for 1)).is in
    answered (verdict_of 1 (lines_of itself)) _ (sym e)

-- −x + y is refused
pub takes_forward_only : Version
takes_forward_only = taking_only (λ l. eq_z l.a (pos 1))

pub takes_forward_only_breaks : Keeps takes_forward_only → ⊥
unfolding takes_forward_only backward differences_answer differences_validity_lem others_validity all_differences first_other_lem validity_of lines_validity_lem line_tests line_at
takes_forward_only_breaks k =
    let e : Err (NotDifference 0) ≡ cond (verdict_of 2 (lines_of backward)) (Ok Yes) (Ok No) = (k 2 backward (lent_for 2)).is in
    answered (verdict_of 2 (lines_of backward)) _ (sym e)

-- ---- it names the last line that is no difference
last_other : List ℤ → ℕ
last_other L = line_count L - 1 - first_failing_lem (line_count L) (λ k. is_difference_lem (line_at L (line_count L - 1 - k)))

pub names_last_other : Version
names_last_other =
    refusing_by (λ n L b. validity_of n L or_else refuse_if (not (all_differences L)) (NotDifference (last_other L)) or_else plain_rooms_validity n (lengths_of b))

pub names_last_other_breaks : Keeps names_last_other → ⊥
unfolding names_last_other last_other sum forward differences_answer differences_validity_lem others_validity all_differences first_other_lem validity_of lines_validity_lem line_tests line_at
names_last_other_breaks k =
    let e : Err (NotDifference 2) ≡ Err (NotDifference 1) = (k 2 (forward ++ sum ++ sum) (lent_for 2)).is in
    let p : ◌≡◌ {A = ℕ} 2 1 = cc in omega (arith, p)

-- ---- it asks for the work area of the first engine
pub asks_for_more : Version
asks_for_more = refusing_by (λ n L b. validity_of n L or_else others_validity L or_else first_short lent_rooms n (lengths_of b))

pub asks_for_more_breaks : Keeps asks_for_more → ⊥
unfolding asks_for_more differences_answer differences_validity_lem others_validity all_differences first_other_lem validity_of lines_validity_lem
asks_for_more_breaks k =
    let e : Err ShortWorkArea ≡ cond (verdict_of 0 (lines_of [])) (Ok Yes) (Ok No) = (k 0 [] (lent_for 0)).is in
    answered (verdict_of 0 (lines_of [])) _ (sym e)

-- ---- it clears the work area beyond its room, too
abbrev cleared_whole : Lent → Lent
cleared_whole a =
    record { model = a.model; bounds = a.bounds; groups = a.groups; refutation = a.refutation; identifiers = a.identifiers; work = replicate (length a.work) (pos 0) }

pub clears_all : Version
clears_all n L b =
    outcome (differences_answer_for n L b) b (cleared_whole (right_yes_in (differences_work_room_lem n) n L b)) (cleared_whole (right_no_in (differences_work_room_lem n) n L b))

one_beyond : Lent
one_beyond = lent_with 0 (replicate (differences_work_room_lem 0 + 1) (pos 7))

pub clears_all_breaks : Keeps clears_all → ⊥
unfolding clears_all one_beyond differences_answer differences_validity_lem others_validity all_differences first_other_lem validity_of lines_validity_lem verdict_of has_false no_negative consistent_halves
clears_all_breaks k =
    let left : DifferencesLeave 0 [] (Ok Yes) one_beyond (cleared_whole (right_yes_in (differences_work_room_lem 0) 0 [] one_beyond)) = (k 0 [] one_beyond).leaves in
    let e : pos 0 ≡ pos 7 = ap (λ (w : List ℤ). get_or w (differences_work_room_lem 0) (pos 0)) left.work in never (cc)
