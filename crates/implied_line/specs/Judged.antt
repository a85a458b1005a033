-- The two searches give the answer: what they ask and leave, and why that is right in each way out.
use Rattle.std.specs.Prelude.{◌≡◌, Bool, not, List, ◌++◌, ℕ, ◌+◌, ◌≤◌, ℤ, pos, length, drop, replicate, Err, Ok, Result}
use Rattle.std.proofs.Math.Path.{refl, sym, ap}
use Rattle.std.proofs.Common.{ap₂, ◌∙◌, arith, length-append}
use Rattle.std.proofs.Math.Bool.{true, false}
use Rattle.std.proofs.lemmas.List.{length-replicate}
use Rattle.integers.specs.Integer.{Within}
use Rattle.lines.specs.declared.Line.{Line}
use Rattle.lines.specs.declared.Refusal.{Refusal}
use Rattle.lines.specs.Limits.{line_size, max_variables, shown_constant_lem}
use Rattle.lines.specs.Line.{line_count, lines_of, line_numbers_lem}
use Rattle.lines.specs.LineNumbers.{length_numbers}
use Rattle.lines.specs.Refusal.{line_validity_lem, validity_of}
use Rattle.lines.specs.Valid.{ListOk, or_valid, line_ok, valid_list, workable}
use Rattle.theory_walks.specs.Size.{within_more}
use Rattle.theory_bounds.specs.Verdict.{verdict_of}
use Rattle.decide_buffers.specs.Room.{ModelLent, model_lengths_of, model_room_lem, refutation_room_lem, work_room_lem, model_rooms, none_short}
use Rattle.longer_list.specs.Written.{most_numbers}
use Rattle.decide.specs.Searched.{used_room, SearchReady, Searched}
use Rattle.decide.specs.Modelled.{ModelAsked, Modelled}
use Rattle.decide.specs.Decided.{used_room_law, cleared_is}
use Rattle.implied_line.specs.declared.LineAnswer.{LineAnswer}
use Rattle.implied_line.specs.declared.LineAnswer.TheVariants.{Implied, NotImplied, Unsolvable}
use Rattle.opposite_line.specs.Opposite.{opposite, opposed, opposed_works, opposed_modellable}
use Rattle.implied_line.specs.Answer.{question_validity_lem, judged_by, judged, unless_refused, implied_answer, model_left, AnswersLine}

-- ---- nothing is refused
pub record LineAsked (n : ℕ) (L : List ℤ) (l : Line) (model work : List ℤ) : Type 0 where
  pub list : validity_of n L ≡ Ok tt
  pub line : line_validity_lem n (line_count L) l ≡ Ok tt
  pub model_room : model_room_lem n ≤ length model
  pub work_room : work_room_lem n ≤ length work

pub asked : (n : ℕ) (L : List ℤ) (l : Line) (b : ModelLent) → question_validity_lem n L l (model_lengths_of b) ≡ Ok tt → LineAsked n L l b.model b.work
unfolding question_validity_lem
asked n L l b e =
    let p = or_valid (validity_of n L) _ e in
    let q = or_valid (line_validity_lem n (line_count L) l) _ p.1 in
    let r = none_short model_rooms n (model_lengths_of b) q.1 in
    record { list = p.0; line = q.0; model_room = r.0; work_room = r.1.0 }

-- ---- what the searches leave: before model and work, after model' and work'
pub record LineJudged (n : ℕ) (L : List ℤ) (l : Line) (model work : List ℤ) (answer : LineAnswer) (model' work' : List ℤ) : Type 0 where
  pub is : answer ≡ judged n L l
  pub model_left_law : model' ≡ model_left n L l (Ok answer) model
  pub same_length : length work' ≡ length work
  pub behind : drop (used_room n) work' ≡ drop (used_room n) work

module _ (n : ℕ) (L : List ℤ) (l : Line) (model work : List ℤ) (a : LineAsked n L l model work) where
  abbrev zeros : List ℕ
  zeros = replicate (refutation_room_lem max_variables) 0

  ok : ListOk n L
  ok = valid_list n L a.list

  pub few : n ≤ max_variables
  few = ok.variables

  pub line_small : Within 1 l.a × Within 1 l.b × Within (shown_constant_lem max_variables) l.d
  line_small = let o = line_ok n (line_count L) l a.line in (o.coefficient_a, o.coefficient_b, within_more (omega arith) o.constant)

  -- no refutation is asked for, so that zeros are lent for it
  pub search_ready : SearchReady n L (replicate (refutation_room_lem max_variables) 0) work
  search_ready =
      record {
        valid = workable n L a.list;
        room = omega (arith, length-replicate {A = ℕ} (refutation_room_lem max_variables) 0, few);
        work_room = omega (arith, used_room_law n, a.work_room);
      }

  -- the longer list has its room
  pub long : length L + line_size ≤ most_numbers
  long = omega (arith, ok.whole, ok.count)

  pub length_opposed : length (opposed L l) ≡ length L + line_size
  length_opposed = length-append L (line_numbers_lem (opposite l)) ∙ ap (λ (k : ℕ). length L + k) (length_numbers (opposite l))

  -- the first search found a refutation
  module _ {R : List ℕ} {work₁ : List ℤ} {found : Bool} (first : Searched n L zeros work R work₁ found) where
    pub unsolvable : found ≡ true → LineJudged n L l model work Unsolvable model work₁
    unsolvable e =
        record {
          is = ap (λ (b : Bool). judged_by b (verdict_of n (lines_of (opposed L l)))) (sym (first.verdict ∙ ap not e));
          model_left_law = refl;
          same_length = first.same_length;
          behind = first.behind;
        }

    -- it found none: the second one goes on
    module _ (none : found ≡ false) where
      yes_verdict : verdict_of n (lines_of L) ≡ true
      yes_verdict = first.verdict ∙ ap not none

      pub model_asked : ModelAsked n (opposed L l) model R work₁
      model_asked =
          record {
            search =
                record {
                  valid = opposed_works n (line_count L) L l a.list a.line;
                  room = rw (first.on_yes none).0 search_ready.room;
                  work_room = omega (arith, search_ready.work_room, first.same_length);
                };
            modellable = opposed_modellable n (line_count L) L l a.list a.line;
            room = a.model_room;
          }

      module _ {model₂ : List ℤ} {R₂ : List ℕ} {work₂ : List ℤ} {again : Bool} (second : Modelled n (opposed L l) model R work₁ model₂ R₂ work₂ again) where
        judged_by_law : (b : Bool) → again ≡ b → judged_by true (not b) ≡ judged n L l
        judged_by_law b e = sym (ap₂ judged_by yes_verdict (second.searched.verdict ∙ ap not e))

        pub implied : again ≡ true → LineJudged n L l model work Implied model₂ work₂
        implied e =
            record {
              is = judged_by_law true e;
              model_left_law = second.on_no e;
              same_length = second.searched.same_length ∙ first.same_length;
              behind = second.searched.behind ∙ first.behind;
            }

        pub not_implied : again ≡ false → LineJudged n L l model work NotImplied model₂ work₂
        not_implied e =
            record {
              is = judged_by_law false e;
              model_left_law = second.on_yes e;
              same_length = second.searched.same_length ∙ first.same_length;
              behind = second.searched.behind ∙ first.behind;
            }

-- ---- the call
module _ (n : ℕ) (L : List ℤ) (l : Line) (b : ModelLent) where
  pub refused : (r : Refusal) → question_validity_lem n L l (model_lengths_of b) ≡ Err r → AnswersLine n L l (Err r) b b
  unfolding implied_answer
  refused r e = record { is = sym (ap (λ (v : Result Unit Refusal). unless_refused v (judged n L l)) e); model = refl; work = refl }

  module _ (e : question_validity_lem n L l (model_lengths_of b) ≡ Ok tt) where
    pub room_left : {x : LineAnswer} {m w : List ℤ} → LineJudged n L l b.model b.work x m w → work_room_lem n ≤ length w
    room_left j = omega (arith, j.same_length, (asked n L l b e).work_room)

    pub answers : {x : LineAnswer} {m w : List ℤ} → LineJudged n L l b.model b.work x m w
        → (v : List ℤ) → v ≡ replicate (work_room_lem n) (pos 0) ++ drop (work_room_lem n) w → AnswersLine n L l (Ok x) b (record { model = m; work = v })
    unfolding implied_answer
    answers {x} {m} {w} j v z =
        record {
          is = ap Ok j.is ∙ sym (ap (λ (u : Result Unit Refusal). unless_refused u (judged n L l)) e);
          model = j.model_left_law;
          work = cleared_is n b.work w v j.behind z;
        }
