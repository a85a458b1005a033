-- The search for a showing: what it asks, what it leaves, and how the call's promise follows.
use Rattle.std.specs.Prelude.{◌≡◌, Bool, true, false, not, List, ◌++◌, ℕ, ◌≤◌, ℤ, pos, length, drop, replicate, Err, Ok, Result}
use Rattle.std.proofs.Math.Path.{refl, sym, ap}
use Rattle.std.proofs.Common.{◌∙◌, arith}
use Rattle.std.proofs.lemmas.Bool.{false≢true}
use Rattle.lines.specs.declared.Line.{Line}
use Rattle.lines.specs.declared.Refusal.{Refusal}
use Rattle.lines.specs.Line.{line_count, lines_of}
use Rattle.lines.specs.Refusal.{shown_validity_lem, validity_of}
use Rattle.lines.specs.Valid.{or_valid}
use Rattle.check_soundness.specs.Head.{steps_in}
use Rattle.check_soundness.specs.Refutes.{stated_length_law}
use Rattle.theory_bounds.specs.Verdict.{verdict_of}
use Rattle.theory_answers.specs.Refuted.{Due}
use Rattle.decide_identifiers.specs.Identifiers.{identifiers_of, StepsNamed, steps_named, identifiers_front, counts_front}
use Rattle.decide_buffers.specs.Room.{refutation_room_lem, identifiers_room_lem, work_room_lem, none_short}
use Rattle.decide.specs.Searched.{used_room, SearchReady, Searched}
use Rattle.decide.specs.Decided.{used_room_law, cleared_is}
use Rattle.shown_list.specs.Against.{against}
use Rattle.check_shown.specs.Asked.{ShownAsked, works}
use Rattle.show_line.specs.declared.ShowAnswer.TheVariants.{Shown, NotShown}
use Rattle.show_line.specs.Answer.{show_rooms, show_validity_lem, judged_by, unless_refused, show_answer, ShowLent, lengths_of, ShowsLine}

-- nothing is refused
pub record ShowAsked (n : ℕ) (L : List ℤ) (l : Line) (R I : List ℕ) (w : List ℤ) : Type 0 where
  pub asked : ShownAsked n L l
  pub refutation_room : refutation_room_lem n ≤ length R
  pub identifiers_room : identifiers_room_lem n ≤ length I
  pub work_room : work_room_lem n ≤ length w

pub show_asked : (n : ℕ) (L : List ℤ) (l : Line) (b : ShowLent) → show_validity_lem n L l (lengths_of b) ≡ Ok tt → ShowAsked n L l b.refutation b.identifiers b.work
unfolding show_validity_lem
show_asked n L l b e =
    let p = or_valid (validity_of n L) _ e in
    let q = or_valid (shown_validity_lem n (line_count L) l) _ p.1 in
    let rooms = none_short show_rooms n (lengths_of b) q.1 in
    record { asked = record { list = p.0; line = q.0 }; refutation_room = rooms.0; identifiers_room = rooms.1.0; work_room = rooms.1.1.0 }

-- a showing in front, and the identifiers of its steps
pub record Written (n : ℕ) (L : List ℤ) (l : Line) (R I R' I' : List ℕ) : Type 0 where
  pub numbers : List ℕ
  pub due : Due n (against L l) numbers
  pub refutation : R' ≡ numbers ++ drop (length numbers) R
  pub identifiers : I' ≡ identifiers_of (against L l) numbers ++ drop (steps_in numbers) I

pub record ShowFound (n : ℕ) (L : List ℤ) (l : Line) (R I : List ℕ) (w : List ℤ) (R' I' : List ℕ) (w' : List ℤ) (found : Bool) : Type 0 where
  pub verdict : verdict_of n (lines_of (against L l)) ≡ not found
  pub on_shown : found ≡ true → Written n L l R I R' I'
  pub on_open : found ≡ false → (R' ≡ R) × (I' ≡ I)
  pub same_length : length w' ≡ length w
  pub behind : drop (used_room n) w' ≡ drop (used_room n) w

module _ (n : ℕ) (L : List ℤ) (l : Line) (R I : List ℕ) (w : List ℤ) (a : ShowAsked n L l R I w) where
  pub search_ready : SearchReady n (against L l) R w
  search_ready = record { valid = works n L l a.asked; room = a.refutation_room; work_room = omega (arith, used_room_law n, a.work_room) }

  module _ (R₁ : List ℕ) (w₁ : List ℤ) (found : Bool) (k : Searched n (against L l) R w R₁ w₁ found) where
    -- a refutation was found: its steps name lines, and there is room for their identifiers
    module _ (z : found ≡ true) where
      abbrev numbers : List ℕ
      numbers = (k.on_no z).0

      abbrev due : Due n (against L l) numbers
      due = (k.on_no z).1

      abbrev rest : List ℕ
      rest = drop (length numbers) R

      pub identifiers_ready : StepsNamed (against L l) R₁ × (steps_in R₁ ≤ length I)
      identifiers_ready =
          let u = due.refutes in (
            rw (k.on_no z).2 (steps_named n (against L l) numbers rest u (works n L l a.asked).lines),
            rw (k.on_no z).2 (omega (arith, stated_length_law (against L l) numbers u rest, due.size, a.identifiers_room)),
          )

      pub shown_found : (I₁ : List ℕ) → I₁ ≡ identifiers_of (against L l) R₁ ++ drop (steps_in R₁) I → ShowFound n L l R I w R₁ I₁ w₁ true
      shown_found I₁ i =
          record {
            verdict = k.verdict ∙ ap not z;
            on_shown = λ e. record { numbers = numbers; due = due; refutation = (k.on_no z).2; identifiers = i ∙ front R₁ (k.on_no z).2 };
            on_open = λ e. absurd (false≢true (sym e));
            same_length = k.same_length;
            behind = k.behind;
          }
        where
          front : (R₂ : List ℕ) → R₂ ≡ numbers ++ rest → identifiers_of (against L l) R₂ ++ drop (steps_in R₂) I ≡ identifiers_of (against L l) numbers ++ drop (steps_in numbers) I
          front R₂ e = let u = due.refutes in rw (e, identifiers_front n (against L l) numbers rest u, counts_front n (against L l) numbers rest u)

    pub open_found : found ≡ false → ShowFound n L l R I w R₁ I w₁ false
    open_found z =
        record {
          verdict = k.verdict ∙ ap not z;
          on_shown = λ e. absurd (false≢true e);
          on_open = λ e. ((k.on_yes z).0, refl);
          same_length = k.same_length;
          behind = k.behind;
        }

-- ---- the call
module _ (n : ℕ) (L : List ℤ) (l : Line) (b : ShowLent) where
  pub refused : (r : Refusal) → show_validity_lem n L l (lengths_of b) ≡ Err r → ShowsLine n L l (Err r) b b
  unfolding show_answer
  refused r e = record { is = sym (ap (λ (v : Result Unit Refusal). unless_refused v (judged_by (verdict_of n (lines_of (against L l))))) e); leaves = refl }

  module _ (e : show_validity_lem n L l (lengths_of b) ≡ Ok tt) (R₁ I₁ : List ℕ) (w₁ : List ℤ) (found : Bool) (k : ShowFound n L l b.refutation b.identifiers b.work R₁ I₁ w₁ found) where
    pub room_left : work_room_lem n ≤ length w₁
    room_left = omega (arith, k.same_length, (show_asked n L l b e).work_room)

    is_judged : Ok (judged_by (not found)) ≡ show_answer n L l (lengths_of b)
    unfolding show_answer
    is_judged = sym (ap (λ (v : Result Unit Refusal). unless_refused v (judged_by (verdict_of n (lines_of (against L l))))) e ∙ ap (λ (s : Bool). Ok (judged_by s)) k.verdict)

    module _ (w₂ : List ℤ) (z : w₂ ≡ replicate (work_room_lem n) (pos 0) ++ drop (work_room_lem n) w₁) where
      pub answers_shown : found ≡ true → ShowsLine n L l (Ok Shown) b (record { refutation = R₁; identifiers = I₁; work = w₂ })
      answers_shown y =
          let s = k.on_shown y in
          record {
            is = ap (λ (f : Bool). Ok (judged_by (not f))) (sym y) ∙ is_judged;
            leaves =
                record { numbers = s.numbers; due = s.due; refutation = s.refutation; identifiers = s.identifiers; work = cleared_is n b.work w₁ w₂ k.behind z };
          }

      pub answers_open : found ≡ false → ShowsLine n L l (Ok NotShown) b (record { refutation = R₁; identifiers = I₁; work = w₂ })
      answers_open y =
          record {
            is = ap (λ (f : Bool). Ok (judged_by (not f))) (sym y) ∙ is_judged;
            leaves = record { refutation = (k.on_open y).0; identifiers = (k.on_open y).1; work = cleared_is n b.work w₁ w₂ k.behind z };
          }
