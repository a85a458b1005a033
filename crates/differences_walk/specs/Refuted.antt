-- The refutation that the walk makes where it comes to a variable twice, and that it does where it has as many steps as there are variables.
use Rattle.std.specs.Prelude.{◌≡◌, refl, Bool, true, false, List, ◌∷◌, ℕ, ◌+◌, ◌-◌, ◌<◌, ◌≤◌, ℤ, pos, ◌+ℤ◌, length, get_or, take, drop}
use Rattle.std.proofs.Common.{sym, ap, subst, ◌∙◌, arith, length-take, length-drop, get_or-take, get_or-drop}
use Rattle.std.proofs.Math.Decide.{dec_lt}
use Rattle.integers.specs.Integer.{◌⋖◌}
use Rattle.integers.proofs.Linear.{ints}
use Rattle.integers.specs.Laws.{never}
use Rattle.lines.specs.Line.{number}
use Rattle.steps.specs.declared.Step.{Step}
use Rattle.steps.specs.Point.{point}
use Rattle.steps.specs.Walk.{total}
use Rattle.theory_walks.specs.Distance.{some, ◌⊕◌}
use Rattle.theory_walks.specs.Row.{at}
use Rattle.theory_walks.specs.Pigeon.{Twice, Split, point_after, split_at, split_closed, twice_there}
use Rattle.theory_walks.specs.Negative.{no_negative, no_negative_found}
use Rattle.theory_differences.specs.Walks.{copy_steps, copy_total, copy_path}
use Rattle.theory_differences.specs.Numbers.{plain_take, plain_drop}
use Rattle.theory_differences.specs.Anywhere.{zero_at, zero_first, zero_entry, changed_negative}
use Rattle.check_refutation.specs.Progress.{head_size}
use Rattle.engine_packed_steps.specs.Scratch.{Scratch}
use Rattle.decide_written_walks.specs.Copy.{StepNumbers, copied_to}
use Rattle.decide_written_walks.specs.Stretch.{Stretch, ClosedShown, closed_numbers, closed_shown}
use Rattle.differences_lines.specs.PlainList.{plain_of, ends_within}
use Rattle.differences_rows.specs.Layout.{walk_at_lem, points_at_lem, plain_end}
use Rattle.differences_walk.specs.declared.Part.{Part}
use Rattle.differences_walk.specs.Again.{MetAgain}
use Rattle.differences_walk.specs.Reading.{WalkReady, Walked}

pub record RefuteReady (n : ℕ) (L : List ℤ) (top v : ℕ) (R : List ℕ) (w : List ℤ) : Type 0 where
  pub walk : WalkReady n L w top v
  pub room : head_size + n ≤ length R

-- a refutation of kind 1 with at most n steps stands in front, and some closed walk over the variables is negative
pub record ShownPlain (n : ℕ) (L : List ℤ) (R R' : List ℕ) : Type 0 where
  pub size : ℕ
  pub few : size ≤ n
  pub shown : ClosedShown L size R R'
  pub negative : no_negative (plain_of L) n ≡ false

pub record BackRefuted (n : ℕ) (L : List ℤ) (top : ℕ) (R : List ℕ) (w : List ℤ) (R' : List ℕ) (w' : List ℤ) (refuted : Bool) : Type 0 where
  pub scratch : Scratch (walk_at_lem n) (plain_end n) w w'
  pub on_yes : refuted ≡ true → ShownPlain n L R R'
  pub on_no : refuted ≡ false → (R' ≡ R) × (top < n)

module _ {n : ℕ} {L : List ℤ} {top v : ℕ} {R : List ℕ} {w : List ℤ} (a : RefuteReady n L top v R w) {w' : List ℤ} (b : Walked n L w top v w') where
  abbrev u : ℕ
  u = b.start

  abbrev ss : List Step
  ss = b.read.steps

  abbrev within : u < n
  within = b.read.within

  size : length ss ≡ top
  size = omega (arith, b.read.count)

  all_steps : top ≤ length b.read.steps
  all_steps = omega (arith, size)

  -- the sum is the entry
  value : at (zero_at (plain_of L) n top) v ≡ some (total b.read.steps)
  value =
      b.read.sum ∙ ap (λ d. d ⊕ total ss) (ap (λ r. at r u) (zero_first (plain_of L) n) ∙ zero_entry n u within) ∙ ap some (plain (total ss))
    where
      plain : (x : ℤ) → pos 0 +ℤ x ≡ x
      plain x = simp ints (omega arith)

  -- the points as they stand, in the part that is looked at
  abbrev points : List ℤ
  points = take (top + 1) (drop (points_at_lem n) w')

  points_length : points_at_lem n + (top + 1) ≤ length w' → length points ≡ top + 1
  points_length h = length-take (top + 1) (drop (points_at_lem n) w') ∙ omega (arith, length-drop (points_at_lem n) w')

  point_at : (i : ℕ) → i ≤ top → number points i ≡ pos (point_after u ss i)
  point_at i h =
      let z : points_at_lem n + i ≡ points_at_lem n + 0 + i = omega arith in
      get_or-take (top + 1) (drop (points_at_lem n) w') i (pos 0) (omega arith) ∙ get_or-drop (points_at_lem n) w' i (pos 0) ∙ ap (number w') z ∙ b.read.points i (omega (arith, size))

  pub long : plain_end n ≤ length w'
  long = omega (arith, a.walk.room, b.scratch.same_length)

  all_length : length points ≡ top + 1
  all_length = points_length (omega (arith, long, a.walk.few))

  -- two places with one variable
  module _ (r : Part) (m : MetAgain points r) where
    module _ (h : r.last ≤ top) where
      pub found : (r.first < r.last) × (number points r.last ≡ number points r.first)
      found = m.found (omega (arith, all_length))

      same_number : (x y : ℕ) → pos x ≡ pos y → x ≡ y
      same_number x y e = cc

      twice : Twice (point_after b.start b.read.steps) top
      twice = record {
        i = r.first;
        j = r.last;
        order = found.0;
        high = h;
        same = same_number _ _ (sym (point_at r.first (omega (arith, found.0))) ∙ sym found.1 ∙ point_at r.last h);
      }

      split : Split (plain_of L) n b.start v b.read.steps
      split = split_at (plain_of L) n u v ss b.read.walk top all_steps a.walk.few twice

      closed_is : split.closed ≡ take (r.last - r.first) (drop r.first b.read.steps)
      unfolding split twice
      closed_is = split_closed (plain_of L) n u v ss b.read.walk top all_steps a.walk.few twice

      negative : total split.closed ⋖ pos 0
      negative =
          changed_negative (plain_of L) n (ends_within a.walk.plain) a.walk.last u v ss within a.walk.changed
          (subst (λ (k : ℕ). at (zero_at (plain_of L) n k) v ≡ some (total ss)) a.walk.top_is value) (size ∙ a.walk.top_is) split

      abbrev i : ℕ
      i = r.first

      abbrev d : ℕ
      d = r.last - r.first

      abbrev ks : List ℕ
      ks = b.read.numbers

      part_length : length (take (r.last - r.first) (drop r.first b.read.numbers)) ≡ r.last - r.first
      part_length = length-take d (drop i ks) ∙ omega (arith, length-drop i ks, b.read.counted, size, h, found.0)

      -- the numbers between them name the closed part
      stretch : Stretch L (point split.point 0) (point split.point 0) w' (walk_at_lem n + r.first) (walk_at_lem n + r.last) (total split.closed)
      stretch = record {
        numbers = take d (drop i ks);
        count = omega (arith, part_length, found.0);
        stand = λ j l.
            let q : j < d = omega (arith, l, part_length) in
            let x : walk_at_lem n + r.first + j ≡ walk_at_lem n + 0 + (i + j) = omega arith in
            let e : get_or (take d (drop i ks)) j 0 ≡ get_or ks (i + j) 0 = get_or-take d (drop i ks) j 0 q ∙ get_or-drop i ks j 0 in
            let f = b.read.stand (i + j) (omega (arith, q, b.read.counted, size, h, found.0)) in
            rw e (ap (number w') x ∙ f.0, f.1);
        steps = copy_steps split.closed;
        named = rw closed_is (plain_take L d (drop i ks) (drop i ss) (plain_drop L i ks ss b.read.named));
        path = copy_path split.point split.point split.closed split.walk_closed.path;
        sum_is = copy_total split.closed;
      }

      -- as the code computes them
      module _ (walk : ℕ) (at-walk : walk ≡ walk_at_lem n) where
        apart : walk + r.last - (walk + r.first) ≡ r.last - r.first
        apart = omega arith

        pub copy_fits : (walk + r.first + (r.last - r.first) ≤ length w') × (head_size + (r.last - r.first) ≤ length R) × StepNumbers w' (walk + r.first) (r.last - r.first)
        copy_fits = (
          omega (arith, at-walk, found.0, h, a.walk.few, long),
          omega (arith, h, a.walk.few, a.room),
          rw at-walk (subst (λ (k : ℕ). StepNumbers w' (walk_at_lem n + r.first) k) (rw at-walk at apart) (closed_numbers stretch (omega (arith, h, a.walk.few, long)))),
        )

        pub back_refuted : (R₁ : List ℕ) → R₁ ≡ copied_to R head_size w' (walk + r.first) (r.last - r.first) → (R' : List ℕ) → R' ≡ 1 ∷ (r.last - r.first) ∷ 0 ∷ drop head_size R₁ → BackRefuted n L top R w R' w' true
        back_refuted R₁ c R' e = record {
          scratch = b.scratch;
          on_yes = λ _. record {
            size = walk_at_lem n + r.last - (walk_at_lem n + r.first);
            few = omega (arith, h, a.walk.few);
            shown =
                let q : r.last - r.first ≡ walk_at_lem n + r.last - (walk_at_lem n + r.first) = sym (rw at-walk at apart) in
                closed_shown stretch (omega (arith, h, a.walk.few, long)) (omega (arith, found.0)) negative R (omega (arith, a.room)) R₁
                (c ∙ ap (λ (x : ℕ). copied_to R head_size w' (x + r.first) (r.last - r.first)) at-walk ∙ ap (copied_to R head_size w' (walk_at_lem n + r.first)) q) R'
                (e ∙ ap (λ (x : ℕ). 1 ∷ x ∷ 0 ∷ drop head_size R₁) q);
            negative = no_negative_found (plain_of L) n (ends_within a.walk.plain) split.point split.closed split.walk_closed negative;
          };
          on_no = λ z. never (cc);
        }

    -- no variable twice: then the walk has fewer steps than there are variables
    pub not_refuted : top < r.last → BackRefuted n L top R w R w' false
    not_refuted h = record {
      scratch = b.scratch;
      on_yes = λ z. never (cc);
      on_no = λ _. (refl, go (dec_lt top n));
    }
      where
        go : Dec (top < n) → top < n
        go (yes l) = l
        go (no l) =
            let e : top ≡ n = omega (arith, l, a.walk.few) in
            let t = twice_there (plain_of L) n (ends_within a.walk.plain) u v ss within b.read.walk in
            absurd
            (m.none (omega (arith, all_length)) t.i (omega (arith, all_length, t.order, t.high, e)) t.j t.order (omega (arith, all_length, t.high, e))
            (point_at t.j (omega (arith, t.high, e)) ∙ ap pos (sym t.same) ∙ sym (point_at t.i (omega (arith, t.order, t.high, e)))))
