-- Refutations of kinds 1 and 2, made of the walks found and written in front of what the buffer held.
use Rattle.std.specs.Prelude.{◌≡◌, refl, true, List, [], ◌∷◌, ◌++◌, ℕ, ◌+◌, ◌*◌, ◌<◌, ◌≤◌, ℤ, pos, ◌+ℤ◌, length, take, drop}
use Rattle.std.proofs.Common.{sym, ap, ap₂, subst, ◌∙◌, inr, append_assoc, arith, length-append, length-drop, take_at, drop_at, length-take-le, drop-drop}
use Rattle.integers.specs.Integer.{◌⋖◌, half}
use Rattle.integers.proofs.Linear.{ints}
use Rattle.lines.specs.Limits.{max_variables, work_lines}
use Rattle.lines.specs.Line.{line_count, lines_of}
use Rattle.lines.specs.Valid.{LinesOk}
use Rattle.steps.specs.declared.Step.{Step}
use Rattle.steps.specs.Point.{opposite}
use Rattle.steps.specs.Step.{steps_of}
use Rattle.steps.specs.Walk.{Path, total, Names, names_length}
use Rattle.theory_walks.specs.Distance.{some}
use Rattle.theory_walks.specs.Row.{best, some_is}
use Rattle.theory_walks.specs.Negative.{no_negative, no_negative_at}
use Rattle.theory_bounds.specs.Points.{opposite_below}
use Rattle.check_soundness.specs.Head.{kind_of, steps_in}
use Rattle.check_soundness.specs.Refutes.{Refutes, kind_1, kind_2}
use Rattle.check_refutation.specs.Progress.{head_size}
use Rattle.decide_written_walks.specs.Shortest.{walk_start, SumFound, least, closed}
use Rattle.decide_written_walks.specs.Written.{WriteReady, WalkWritten}

-- a refutation of a kind, with at most 4n steps, in front of what stood in the buffer
pub record RefutationWritten (n : ℕ) (L : List ℤ) (kind : ℕ) (R : List ℕ) (w : List ℤ) (R' : List ℕ) (w' : List ℤ) : Type 0 where
  pub numbers : List ℕ
  pub refutes : Refutes L numbers
  pub kind_is : kind_of numbers ≡ kind
  pub few : steps_in numbers ≤ 4 * n
  pub size : length numbers ≤ head_size + 4 * n
  pub is : R' ≡ numbers ++ drop (length numbers) R
  pub same_length : length w' ≡ length w
  pub behind : drop (walk_start (2 * n) + 2 * n) w' ≡ drop (walk_start (2 * n) + 2 * n) w

-- ---- walks have steps
named_some : (L : List ℤ) (ks : List ℕ) (ts : List Step) → Names L ks ts → 0 < length ts → 0 < length ks
named_some L ks ts a h = omega (arith, names_length L ks ts a, h)

negative_some : (ts : List Step) → total ts ⋖ pos 0 → 0 < length ts
negative_some [] h = absurd (clash h)
  where
    clash : pos 0 ⋖ pos 0 → ⊥
    clash = simp ints (omega arith)
negative_some (t ∷ ts) h = omega arith

opposite_other : (p : ℕ) → opposite p ≡ p → ⊥
unfolding opposite
opposite_other p e = omega (arith, e)

there_some : (p : ℕ) (ts : List Step) → Path p ts (opposite p) → 0 < length ts
there_some p [] e = absurd (opposite_other p (sym e))
there_some p (t ∷ ts) e = omega arith

back_some : (p : ℕ) (ts : List Step) → Path (opposite p) ts p → 0 < length ts
back_some p [] e = absurd (opposite_other p e)
back_some p (t ∷ ts) e = omega arith

-- a walk between two points that differ has the least sum
sum_least : {E : List Step} {m u v : ℕ} {z : ℤ} → (u ≡ v → ⊥) → SumFound E m u v z → best E m u v ≡ some z
sum_least ne (least e) = e
sum_least ne (closed e l) = absurd (ne e)

-- ---- what stands behind the head
module _ (R : List ℕ) (place r : ℕ) (ks : List ℕ) (room : place ≤ length R) where
  front : length (take place R) ≡ place
  front = length-take-le place R room

  pub behind_place : drop place ((take place R ++ ks) ++ drop (place + r) R) ≡ ks ++ drop (place + r) R
  behind_place = ap (drop place) (append_assoc (take place R) ks (drop (place + r) R)) ∙ drop_at (take place R) (ks ++ drop (place + r) R) place front

-- ---- kind 1
pub record ClosedReady (n : ℕ) (L : List ℤ) (u : ℕ) (R : List ℕ) (w : List ℤ) : Type 0 where
  pub ready : WriteReady n L u u R head_size w
  pub negative : ready.ready.value ⋖ pos 0

pub closed_written : (n : ℕ) (L : List ℤ) (u : ℕ) (R : List ℕ) (w : List ℤ) → ClosedReady n L u R w → (R₁ : List ℕ) (w' : List ℤ) (r : ℕ) → WalkWritten n L u u R head_size w R₁ w' r
    → (R' : List ℕ) → R' ≡ 1 ∷ r ∷ 0 ∷ drop head_size R₁ → RefutationWritten n L 1 R w R' w'
closed_written n L u R w a R₁ w' r k R' e =
    record {
      numbers = 1 ∷ length k.numbers ∷ 0 ∷ k.numbers;
      refutes = kind_1 (record { numbers = k.numbers; point = u; is = refl; walk = record { steps = k.steps; some = named_some L k.numbers k.steps k.named (negative_some k.steps low); named = k.named; path = k.path }; low = low });
      kind_is = refl;
      few = omega (arith, k.count, k.few);
      size = omega (arith, k.count, k.few);
      is =
          e ∙ ap₂ (λ (i : ℕ) (l : List ℕ). 1 ∷ i ∷ 0 ∷ l) (sym k.count) (ap (drop head_size) k.is ∙ behind_place R head_size r k.numbers (omega (arith, a.ready.room)))
          ∙ ap (λ (i : ℕ). 1 ∷ length k.numbers ∷ 0 ∷ (k.numbers ++ drop i R)) last;
      same_length = k.same_length;
      behind = k.behind;
    }
  where
    low : total k.steps ⋖ pos 0
    low = go k.sum
      where
        go : SumFound (steps_of (lines_of L)) (2 * n) u u (total k.steps) → total k.steps ⋖ pos 0
        go (least e) = subst (λ (z : ℤ). z ⋖ pos 0) (some_is (sym a.ready.ready.reached ∙ e)) a.negative
        go (closed e l) = l

    last : head_size + r ≡ length (1 ∷ length k.numbers ∷ 0 ∷ k.numbers)
    last = omega (arith, k.count)

-- ---- kind 2
pub record HalvesReady (n : ℕ) (L : List ℤ) (p : ℕ) (R : List ℕ) (w : List ℤ) : Type 0 where
  pub few : n ≤ max_variables
  pub valid : LinesOk n L
  pub lines : line_count L ≤ work_lines
  pub within : p < 2 * n
  pub work_room : walk_start (2 * n) + 2 * n ≤ length w
  pub room : head_size + 4 * n ≤ length R
  pub there : ℤ
  pub back : ℤ
  pub there_is : best (steps_of (lines_of L)) (2 * n) p (opposite p) ≡ some there
  pub back_is : best (steps_of (lines_of L)) (2 * n) (opposite p) p ≡ some back
  pub negative : half there +ℤ half back ⋖ pos 0
  pub clear : no_negative (steps_of (lines_of L)) (2 * n) ≡ true

module _ (n : ℕ) (L : List ℤ) (p : ℕ) (R : List ℕ) (w : List ℤ) (a : HalvesReady n L p R w) where
  pub first_ready : WriteReady n L p (opposite p) R head_size w
  first_ready =
      record {
        ready =
            record {
              few = a.few;
              valid = a.valid;
              within = a.within;
              room = a.work_room;
              value = a.there;
              reached = a.there_is;
              wanted = inr (no_negative_at (steps_of (lines_of L)) (2 * n) a.clear p a.within);
            };
        lines = a.lines;
        room = omega (arith, a.room);
      }

  module _ (R₁ : List ℕ) (w₁ : List ℤ) (r : ℕ) (k : WalkWritten n L p (opposite p) R head_size w R₁ w₁ r) where
    first_length : length R₁ ≡ length R
    first_length =
        ap length k.is ∙ length-append (take head_size R ++ k.numbers) (drop (head_size + r) R)
        ∙ omega (arith, length-append (take head_size R) k.numbers, length-take-le head_size R (omega (arith, a.room)), length-drop (head_size + r) R, k.count, k.few, a.room)

    pub second_ready : WriteReady n L (opposite p) p R₁ (head_size + r) w₁
    second_ready =
        record {
          ready =
              record {
                few = a.few;
                valid = a.valid;
                within = opposite_below n p a.within;
                room = omega (arith, a.work_room, k.same_length);
                value = a.back;
                reached = a.back_is;
                wanted = inr (no_negative_at (steps_of (lines_of L)) (2 * n) a.clear (opposite p) (opposite_below n p a.within));
              };
          lines = a.lines;
          room = omega (arith, a.room, first_length, k.few);
        }

    pub halves_written : (R₂ : List ℕ) (w₂ : List ℤ) (s : ℕ) → WalkWritten n L (opposite p) p R₁ (head_size + r) w₁ R₂ w₂ s → (R' : List ℕ) → R' ≡ 2 ∷ r ∷ s ∷ drop head_size R₂ → RefutationWritten n L 2 R w R' w₂
    halves_written R₂ w₂ s j R' e =
        record {
          numbers = 2 ∷ length k.numbers ∷ length j.numbers ∷ (k.numbers ++ j.numbers);
          refutes =
              kind_2
              (record {
                numbers = k.numbers;
                more = j.numbers;
                point = p;
                is = refl;
                there = record { steps = k.steps; some = named_some L k.numbers k.steps k.named (there_some p k.steps k.path); named = k.named; path = k.path };
                back = record { steps = j.steps; some = named_some L j.numbers j.steps j.named (back_some p j.steps j.path); named = j.named; path = j.path };
                low = subst (λ (z : ℤ). half z +ℤ half (total j.steps) ⋖ pos 0) there_sum (subst (λ (z : ℤ). half a.there +ℤ half z ⋖ pos 0) back_sum a.negative);
              });
          kind_is = refl;
          few = omega (arith, k.count, k.few, j.count, j.few);
          size = omega (arith, length-append k.numbers j.numbers, k.count, k.few, j.count, j.few);
          is =
              e ∙ ap₂ (λ (x y : ℕ). 2 ∷ x ∷ y ∷ drop head_size R₂) (sym k.count) (sym j.count)
              ∙ ap (λ (l : List ℕ). 2 ∷ length k.numbers ∷ length j.numbers ∷ l) body;
          same_length = j.same_length ∙ k.same_length;
          behind = j.behind ∙ k.behind;
        }
      where
        there_sum : a.there ≡ total k.steps
        there_sum = some_is (sym a.there_is ∙ sum_least (λ e. opposite_other p (sym e)) k.sum)

        back_sum : a.back ≡ total j.steps
        back_sum = some_is (sym a.back_is ∙ sum_least (opposite_other p) j.sum)

        head_room : head_size ≤ length R
        head_room = omega (arith, a.room)

        head_size_law : length (take head_size R ++ k.numbers) ≡ head_size + r
        head_size_law = length-append (take head_size R) k.numbers ∙ omega (arith, length-take-le head_size R head_room, k.count)

        head : take (head_size + r) R₁ ≡ take head_size R ++ k.numbers
        head = ap (take (head_size + r)) k.is ∙ take_at (take head_size R ++ k.numbers) (drop (head_size + r) R) (head_size + r) head_size_law

        rest : drop (head_size + r + s) R₁ ≡ drop (length (2 ∷ length k.numbers ∷ length j.numbers ∷ (k.numbers ++ j.numbers))) R
        rest =
            let i : head_size + r + s ≡ s + (head_size + r) = omega arith in
            let z : s + (head_size + r) ≡ length (2 ∷ length k.numbers ∷ length j.numbers ∷ (k.numbers ++ j.numbers)) = omega (arith, length-append k.numbers j.numbers, k.count, j.count) in
            sym (drop-drop s (head_size + r) R₁) ∙ ap (drop s) (ap (drop (head_size + r)) k.is ∙ drop_at (take head_size R ++ k.numbers) (drop (head_size + r) R) (head_size + r) head_size_law)
            ∙ drop-drop s (head_size + r) R ∙ ap (λ (x : ℕ). drop x R) (i ∙ z)

        body : drop head_size R₂ ≡ (k.numbers ++ j.numbers) ++ drop (length (2 ∷ length k.numbers ∷ length j.numbers ∷ (k.numbers ++ j.numbers))) R
        body =
            ap (drop head_size) (j.is ∙ ap₂ (λ (x y : List ℕ). (x ++ j.numbers) ++ y) head rest)
            ∙ ap (drop head_size) (append_assoc (take head_size R ++ k.numbers) j.numbers _ ∙ append_assoc (take head_size R) k.numbers _)
            ∙ drop_at (take head_size R) _ head_size (length-take-le head_size R head_room)
            ∙ sym (append_assoc k.numbers j.numbers _)
