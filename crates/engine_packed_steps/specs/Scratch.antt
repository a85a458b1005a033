-- A part of the work area to work in: whatever is stored there, what lies before and behind is kept, and so are the
-- steps at the front.
use Rattle.std.specs.Prelude.{◌≡◌, refl, List, ℕ, ◌+◌, ◌≤◌, ◌<◌, ◌-◌, ℤ, pos, length, set, take, drop}
use Rattle.std.proofs.Common.{sym, ap, ◌∙◌, arith, length-set, drop-set-lt, get_or-take, get_or-drop, drop-drop, take-take}
use Rattle.std.proofs.lemmas.List.{take-set-le}
use Rattle.lines.specs.Line.{number}
use Rattle.engine_packed_steps.specs.Steps.{steps_in, StepsReady, steps_same}

-- as long as before, and kept before `place` and from `end` on
pub record Scratch (place end : ℕ) (w w' : List ℤ) : Type 0 where
  pub same_length : length w' ≡ length w
  pub front : take place w' ≡ take place w
  pub behind : drop end w' ≡ drop end w

pub scratch_none : (place end : ℕ) (w : List ℤ) → Scratch place end w w
scratch_none place end w = record { same_length = refl; front = refl; behind = refl }

pub scratch_trans : {place end : ℕ} {w w' w'' : List ℤ} → Scratch place end w w' → Scratch place end w' w'' → Scratch place end w w''
scratch_trans a b = record { same_length = b.same_length ∙ a.same_length; front = b.front ∙ a.front; behind = b.behind ∙ a.behind }

pub scratch_set : (place end : ℕ) (w : List ℤ) (i : ℕ) (z : ℤ) → place ≤ i → i < end → Scratch place end w (set w i z)
scratch_set place end w i z h l = record { same_length = length-set w i z; front = take-set-le place w i z h; behind = drop-set-lt end w i z l }

pub scratch_at : {place end : ℕ} {w w' : List ℤ} → Scratch place end w w' → (i : ℕ) → i < place → number w' i ≡ number w i
scratch_at {place} {w} {w'} s i h = sym (get_or-take place w' i (pos 0) h) ∙ ap (λ (l : List ℤ). number l i) s.front ∙ get_or-take place w i (pos 0) h

pub scratch_behind : {place end : ℕ} {w w' : List ℤ} → Scratch place end w w' → (i : ℕ) → end ≤ i → number w' i ≡ number w i
scratch_behind {end} {w} {w'} s i h = sym (at w') ∙ ap (λ (l : List ℤ). number l (i - end)) s.behind ∙ at w
  where
    at : (l : List ℤ) → number (drop end l) (i - end) ≡ number l i
    at l =
        let e : end + (i - end) ≡ i = omega arith in
        get_or-drop end l (i - end) (pos 0) ∙ ap (number l) e

-- ---- a wider part
pub scratch_wider : {a b c d : ℕ} {w w' : List ℤ} → c ≤ a → b ≤ d → Scratch a b w w' → Scratch c d w w'
scratch_wider {a} {b} {c} {d} {w} {w'} h l s = record {
  same_length = s.same_length;
  front = sym (taken w') ∙ ap (take c) s.front ∙ taken w;
  behind = sym (dropped w') ∙ ap (drop (d - b)) s.behind ∙ dropped w;
}
  where
    taken : (x : List ℤ) → take c (take a x) ≡ take c x
    taken x = take-take c a x h

    dropped : (x : List ℤ) → drop (d - b) (drop b x) ≡ drop d x
    dropped x = drop-drop (d - b) b x ∙ ap (λ (k : ℕ). drop k x) together
      where
        together : b + (d - b) ≡ d
        together = omega arith

-- ---- the steps are before, so that they are kept
module _ {count place size end : ℕ} {w w' : List ℤ} (r : StepsReady count place size w) (s : Scratch place end w w') where
  pub scratch_ready : StepsReady count place size w'
  scratch_ready = record {
    few = r.few;
    before = r.before;
    room = omega (arith, r.room, s.same_length);
    ok = λ i l. rw (scratch_at s i (omega (arith, l, r.before))) (r.ok i l);
  }

  pub scratch_steps : steps_in count w' ≡ steps_in count w
  scratch_steps = steps_same count w w' (λ i h. scratch_at s i (omega (arith, h, r.before)))
