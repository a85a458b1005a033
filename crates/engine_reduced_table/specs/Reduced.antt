-- The table while it is made: each entry is far, or twice the sum of a walk, reduced by numbers of the two points. It is
-- never below 0, so that whatever is lowered by a sum of two entries stays so. Opposite points have opposite numbers: a
-- walk and its mirror image have one entry.
use Rattle.std.specs.Prelude.{◌≡◌, ◌⊎◌, List, [], ◌∷◌, ◌++◌, ℕ, ◌+◌, ◌*◌, ◌%◌, ◌≤◌, ◌<◌, ℤ, pos, neg_ℤ, ◌+ℤ◌, ◌-ℤ◌, length, set, take, drop}
use Rattle.std.proofs.Common.{sym, ap, subst, ◌∙◌, inl, inr, append_assoc, mul-le-mul_right, arith, SFits, length-append, length-drop, get_or-set_same, get_or-set_other, take_at, drop_at, length-take-le}
use Rattle.std.proofs.Math.Decide.{ℕ_discrete, dec_lt}
use Rattle.std.specs.Int.{w64}
use Rattle.integers.specs.Integer.{◌⩽◌, ◌⋖◌, Within}
use Rattle.integers.proofs.Linear.{ints, zs}
use Rattle.lines.specs.Limits.{max_variables}
use Rattle.lines.specs.Line.{number}
use Rattle.steps.specs.declared.Step.{Step}
use Rattle.steps.specs.Point.{opposite, opposite_twice}
use Rattle.steps.specs.Walk.{total, total_append}
use Rattle.theory_walks.specs.Row.{In}
use Rattle.theory_walks.specs.Reach.{Walk, walk_one, walk_append}
use Rattle.theory_walks.specs.Mirror.{Mirrored, mirror_steps, mirror_walk, mirror_total, opposite_lt}
use Rattle.engine_packed_steps.specs.Steps.{steps_in, StepsReady}
use Rattle.engine_packed_steps.specs.Layout.{row_width}
use Rattle.engine_packed_steps.specs.Scratch.{Scratch, scratch_none, scratch_trans, scratch_set, scratch_at, scratch_ready, scratch_steps, scratch_wider, scratch_behind}

-- stands for no walk
abbrev pub far : ℕ
far = 100_000_000_000_000

-- numbers of points are within plus and minus this
abbrev pub max_potential : ℕ
max_potential = 10_000_000_000_000

-- z is twice the sum of a walk from i to j, and a, less b
pub record Sum (E : List Step) (a b : ℤ) (i j : ℕ) (z : ℤ) : Type 0 where
  pub path : List Step
  pub walk : Walk E i path j
  pub sum : z +ℤ b ≡ (total path +ℤ total path) +ℤ a

pub record Entry (E : List Step) (a b : ℤ) (i j : ℕ) (z : ℤ) : Type 0 where
  pub low : pos 0 ⩽ z
  pub high : z ⩽ pos far
  pub reached : z ⋖ pos far → Sum E a b i j z

-- ---- entries by walks
pub entry_far : (E : List Step) (a b : ℤ) (i j : ℕ) → Entry E a b i j (pos far)
entry_far E a b i j = record { low = simp ints (omega arith); high = simp ints (omega arith); reached = λ h. absurd (never h) }
  where
    never : pos far ⋖ pos far → ⊥
    never = simp ints (omega arith)

-- walks join
pub entry_join : {E : List Step} {a b c : ℤ} {i k j : ℕ} {x y : ℤ} → Entry E a b i k x → Entry E b c k j y → x +ℤ y ⋖ pos far → Entry E a c i j (x +ℤ y)
entry_join {E} {a} {b} {c} {i} {k} {j} {x} {y} p q h = record {
  low = sum_low x y p.low q.low;
  high = below (x +ℤ y) h;
  reached = λ _.
      let s = p.reached (left x y q.low h) in
      let t = q.reached (right x y p.low h) in
      record {
        path = s.path ++ t.path;
        walk = walk_append k s.path t.path s.walk t.walk;
        sum = rw (total_append s.path t.path) (both x y a b c (total s.path) (total t.path) s.sum t.sum);
      };
}
  where
    sum_low : (x y : ℤ) → pos 0 ⩽ x → pos 0 ⩽ y → pos 0 ⩽ x +ℤ y
    sum_low x y = simp ints (omega arith)

    below : (z : ℤ) → z ⋖ pos far → z ⩽ pos far
    below z = simp ints (omega arith)

    left : (x y : ℤ) → pos 0 ⩽ y → x +ℤ y ⋖ pos far → x ⋖ pos far
    left x y = simp ints (omega arith)

    right : (x y : ℤ) → pos 0 ⩽ x → x +ℤ y ⋖ pos far → y ⋖ pos far
    right x y = simp ints (omega arith)

    both : (x y a b c s t : ℤ) → x +ℤ b ≡ (s +ℤ s) +ℤ a → y +ℤ c ≡ (t +ℤ t) +ℤ b → (x +ℤ y) +ℤ c ≡ ((s +ℤ t) +ℤ (s +ℤ t)) +ℤ a
    both x y a b c s t = simp ints (omega arith)

-- a walk's mirror image has the same entry
entry_mirror : {E : List Step} {a b a' b' : ℤ} {i j : ℕ} {z : ℤ} → Mirrored E → a' ≡ neg_ℤ a → b' ≡ neg_ℤ b → Entry E a b i j z → Entry E b' a' (opposite j) (opposite i) z
entry_mirror {E} {a} {b} {a'} {b'} {i} {j} {z} m e f p = record {
  low = p.low;
  high = p.high;
  reached = λ h.
      let s = p.reached h in
      record {
        path = mirror_steps s.path;
        walk = mirror_walk m s.path s.walk;
        sum = rw (mirror_total s.path) (turn z a b a' b' (total s.path) e f s.sum);
      };
}
  where
    turn : (z a b c d t : ℤ) → c ≡ neg_ℤ a → d ≡ neg_ℤ b → z +ℤ b ≡ (t +ℤ t) +ℤ a → z +ℤ c ≡ (t +ℤ t) +ℤ d
    turn z a b c d t = simp ints (omega arith)

-- a step is a walk
pub entry_step : {E : List Step} {a b z : ℤ} (s : Step) → In s E → z +ℤ b ≡ (s.weight +ℤ s.weight) +ℤ a → pos 0 ⩽ z → z ⋖ pos far → Entry E a b s.from s.to z
entry_step {E} {a} {b} {z} s i e l h = record {
  low = l;
  high = below z h;
  reached = λ _. record { path = s ∷ []; walk = walk_one s i; sum = one s.weight z a b e };
}
  where
    below : (z : ℤ) → z ⋖ pos far → z ⩽ pos far
    below z = simp ints (omega arith)

    one : (w z a b : ℤ) → z +ℤ b ≡ (w +ℤ w) +ℤ a → z +ℤ b ≡ ((w +ℤ pos 0) +ℤ (w +ℤ pos 0)) +ℤ a
    one w z a b = simp ints (omega arith)

-- ---- the table in the work area: the steps, behind them a number of each point at `pot`, then a row to copy to, then the table
abbrev pub cell : ℕ → ℕ → ℕ → ℕ → ℕ
cell pot size i j = pot + 2 * size + i * row_width size + j

abbrev pub table_end : ℕ → ℕ → ℕ
table_end pot size = pot + 2 * size + size * row_width size

abbrev pub EntryIn : ℕ → ℕ → List ℤ → ℕ → ℕ → ℤ → Type 0
EntryIn count pot w i j z = Entry (steps_in count w) (number w (pot + i)) (number w (pot + j)) i j z

pub record Reduced (count pot size : ℕ) (w : List ℤ) : Type 0 where
  pub steps : StepsReady count (pot + size) size w
  pub mirrored : Mirrored (steps_in count w)
  pub even : size % 2 ≡ 0
  pub points : size ≤ 2 * max_variables
  pub room : table_end pot size ≤ length w
  pub opposed : (i : ℕ) → i < size → number w (pot + opposite i) ≡ neg_ℤ (number w (pot + i))
  pub small : (i : ℕ) → i < size → Within max_potential (number w (pot + i))
  pub entry : (i j : ℕ) → i < size → j < size → EntryIn count pot w i j (number w (cell pot size i j))

pub record Kept (count pot size : ℕ) (w w' : List ℤ) : Type 0 where
  pub reduced : Reduced count pot size w'
  pub scratch : Scratch (pot + size) (table_end pot size) w w'

-- ---- cells
pub cell_lt : (size i j : ℕ) → i < size → j < size → i * row_width size + j < size * row_width size
cell_lt size i j h l = omega (arith, mul-le-mul_right (row_width size) h)

row_same : (size i j k l : ℕ) → j < size → l < size → i * row_width size + j ≡ k * row_width size + l → i ≡ k
row_same size i j k l hj hl e = go (dec_lt i k) (dec_lt k i)
  where
    go : Dec (i < k) → Dec (k < i) → i ≡ k
    go (yes h) d = absurd (omega (arith, mul-le-mul_right (row_width size) h))
    go (no h) (yes g) = absurd (omega (arith, mul-le-mul_right (row_width size) g))
    go (no h) (no g) = omega arith

module _ {count pot size : ℕ} {w : List ℤ} (r : Reduced count pot size w) where
  pub kept_none : Kept count pot size w w
  kept_none = record { reduced = r; scratch = scratch_none (pot + size) (table_end pot size) w }

  -- the entry of two points as that of their mirror images
  entry_opposite : (i j : ℕ) → i < size → j < size → {z : ℤ} → EntryIn count pot w (opposite j) (opposite i) z → EntryIn count pot w i j z
  entry_opposite i j hi hj {z} e =
      let back = entry_mirror r.mirrored (turn (number w (pot + j)) (number w (pot + opposite j)) (r.opposed j hj)) (turn (number w (pot + i)) (number w (pot + opposite i)) (r.opposed i hi)) e in
      rw (opposite_twice i, opposite_twice j) at back
    where
      turn : (a b : ℤ) → b ≡ neg_ℤ a → a ≡ neg_ℤ b
      turn a b = simp ints (omega arith)

  -- whatever is stored behind the numbers of points, if the table has entries again
  module _ (w' : List ℤ) (s : Scratch (pot + size) (table_end pot size) w w') where
    same_steps : steps_in count w' ≡ steps_in count w
    same_steps = scratch_steps r.steps s

    same_point : (i : ℕ) → i < size → number w' (pot + i) ≡ number w (pot + i)
    same_point i h = scratch_at s (pot + i) (omega arith)

    entry_same : (i j : ℕ) → i < size → j < size → {z : ℤ} → EntryIn count pot w i j z → EntryIn count pot w' i j z
    entry_same i j hi hj {z} e = rw (same_steps, same_point i hi, same_point j hj) e

    pub reduced_again : ((i j : ℕ) → i < size → j < size → EntryIn count pot w i j (number w' (cell pot size i j))) → Kept count pot size w w'
    reduced_again f = record {
      reduced = record {
        steps = scratch_ready r.steps s;
        mirrored = subst Mirrored (sym same_steps) r.mirrored;
        even = r.even;
        points = r.points;
        room = omega (arith, r.room, s.same_length);
        opposed = λ i h. same_point (opposite i) (opposite_lt size i r.even h) ∙ r.opposed i h ∙ ap neg_ℤ (sym (same_point i h));
        small = λ i h. rw (same_point i h) (r.small i h);
        entry = λ i j hi hj. entry_same i j hi hj (f i j hi hj);
      };
      scratch = s;
    }

  -- an entry is stored
  pub kept_set : (i j : ℕ) → i < size → j < size → (z : ℤ) → EntryIn count pot w i j z → Kept count pot size w (set w (cell pot size i j) z)
  kept_set i j hi hj z e =
      reduced_again (set w (cell pot size i j) z) (scratch_set (pot + size) (table_end pot size) w (cell pot size i j) z (omega arith) (omega (arith, cell_lt size i j hi hj)))
      (λ k l hk hl. each k l hk hl (ℕ_discrete (k * row_width size + l) (i * row_width size + j)))
    where
      each : (k l : ℕ) → k < size → l < size → Dec (k * row_width size + l ≡ i * row_width size + j) → EntryIn count pot w k l (number (set w (cell pot size i j) z) (cell pot size k l))
      each k l hk hl (yes q) =
          let g : k ≡ i = row_same size k l i j hl hj q in
          let f : l ≡ j = omega (arith, q, ap (λ (x : ℕ). x * row_width size) g) in
          subst (λ (x : ℕ). EntryIn count pot w x l (number (set w (cell pot size i j) z) (cell pot size x l))) (sym g)
          (subst (λ (x : ℕ). EntryIn count pot w i x (number (set w (cell pot size i j) z) (cell pot size i x))) (sym f)
          (rw (get_or-set_same w (cell pot size i j) z (pos 0) (omega (arith, r.room, cell_lt size i j hi hj))) e))
      each k l hk hl (no n) = rw (get_or-set_other w (cell pot size i j) (cell pot size k l) z (pos 0) (λ x. n (omega (arith, x)))) (r.entry k l hk hl)

  -- the row for copies is written
  kept_copy : (w' : List ℤ) → Scratch (pot + size) (pot + 2 * size) w w' → Kept count pot size w w'
  kept_copy w' s = reduced_again w' (scratch_wider (omega arith) (omega arith) s) (λ i j hi hj. rw (same_cell i j) (r.entry i j hi hj))
    where
      same_cell : (i j : ℕ) → number w' (cell pot size i j) ≡ number w (cell pot size i j)
      same_cell i j = scratch_behind s (cell pot size i j) (omega arith)

pub kept_trans : {count pot size : ℕ} {w w' w'' : List ℤ} → Kept count pot size w w' → Kept count pot size w' w'' → Kept count pot size w w''
kept_trans a b = record { reduced = b.reduced; scratch = scratch_trans a.scratch b.scratch }

-- ---- what the functions ask
pub record Asked (count pot size i k : ℕ) (w : List ℤ) : Type 0 where
  pub reduced : Reduced count pot size w
  pub i_lt : i < size
  pub k_lt : k < size
  pub i_row : i * row_width size + row_width size ≤ size * row_width size
  pub k_row : k * row_width size + row_width size ≤ size * row_width size

pub asked : {count pot size : ℕ} {w : List ℤ} → Reduced count pot size w → (i k : ℕ) → i < size → k < size → Asked count pot size i k w
asked {size} r i k h l = record { reduced = r; i_lt = h; k_lt = l; i_row = omega (arith, mul-le-mul_right (row_width size) h); k_row = omega (arith, mul-le-mul_right (row_width size) l) }

pub record LowerReady (count pot size i k : ℕ) (a : ℤ) (w : List ℤ) : Type 0 where
  pub ask : Asked count pot size i k w
  pub by : EntryIn count pot w i k a

pub record PairReady (count pot size v : ℕ) (w : List ℤ) : Type 0 where
  pub reduced : Reduced count pot size w
  pub low : 2 * v + 1 < size

-- the smaller of two numbers: the first, or the second where it is smaller
abbrev pub Least : ℤ → ℤ → ℤ → Type 0
Least x y r = (r ≡ x) ⊎ ((r ≡ y) × (y ⋖ x))

-- numbers of the table are small, so that a sum of two fits
pub entry_sum_fits : {E F : List Step} {a b c d : ℤ} {i j k l : ℕ} {x y : ℤ} → Entry E a b i j x → Entry F c d k l y → SFits w64 (x +ℤ y)
entry_sum_fits {x} {y} p q = fits x y p.low p.high q.low q.high
  where
    fits : (x y : ℤ) → pos 0 ⩽ x → x ⩽ pos far → pos 0 ⩽ y → y ⩽ pos far → SFits w64 (x +ℤ y)
    fits x y = simp ints (omega zs)

-- the smaller of an entry and a sum of two
pub entry_least : {E : List Step} {a b c : ℤ} {i k j : ℕ} {x y z r : ℤ} → Entry E a c i j x → Entry E a b i k y → Entry E b c k j z → Least x (y +ℤ z) r → Entry E a c i j r
entry_least p q s (inl e) = rw e p
entry_least {x} {y} {z} p q s (inr (e, l)) = rw e (entry_join q s (below x (y +ℤ z) l p.high))
  where
    below : (x t : ℤ) → t ⋖ x → x ⩽ pos far → t ⋖ pos far
    below x t = simp ints (omega arith)

-- a number below 0, or 0
abbrev pub NegativePart : ℤ → ℤ → Type 0
NegativePart d r = ((r ≡ pos 0) × (pos 0 ⩽ d)) ⊎ ((r ≡ d) × (d ⋖ pos 0))

pub least_by : (old sum r : ℤ) → NegativePart (sum -ℤ old) r → Least old sum (old +ℤ r)
least_by old sum r (inl (e, g)) = inl (ap (λ (x : ℤ). old +ℤ x) e ∙ plain old)
  where
    plain : (x : ℤ) → x +ℤ pos 0 ≡ x
    plain x = simp ints (omega arith)
least_by old sum r (inr (e, l)) = inr (ap (λ (x : ℤ). old +ℤ x) e ∙ whole old sum, below old sum l)
  where
    whole : (x y : ℤ) → x +ℤ (y -ℤ x) ≡ y
    whole x y = simp ints (omega arith)

    below : (x y : ℤ) → y -ℤ x ⋖ pos 0 → y ⋖ x
    below x y = simp ints (omega arith)

-- what is subtracted and added on the way fits
pub less_fits : {E F G : List Step} {a b c d e f : ℤ} {i j k l m n : ℕ} {x y z : ℤ} → Entry E a b i j x → Entry F c d k l y → Entry G e f m n z → SFits w64 ((y +ℤ z) -ℤ x)
less_fits {x} {y} {z} p q s = fits x y z p.low p.high q.low q.high s.low s.high
  where
    fits : (x y z : ℤ) → pos 0 ⩽ x → x ⩽ pos far → pos 0 ⩽ y → y ⩽ pos far → pos 0 ⩽ z → z ⩽ pos far → SFits w64 ((y +ℤ z) -ℤ x)
    fits x y z = simp ints (omega zs)

pub least_fits : {x y r : ℤ} → SFits w64 x → SFits w64 y → Least x y r → SFits w64 r
least_fits p q (inl e) = rw e p
least_fits p q (inr (e, l)) = rw e q

-- one number of row i lowered by row k and the entry from i to k, as it was at the beginning
pub lower_one : {count pot size : ℕ} {w₀ w : List ℤ} (r₀ : Reduced count pot size w₀) (p : Kept count pot size w₀ w) (i k j : ℕ) → i < size → k < size → j < size → (a r : ℤ) → EntryIn count pot w₀ i k a
    → Least (number w (cell pot size i j)) (number w (cell pot size k j) +ℤ a) r → Kept count pot size w₀ (set w (cell pot size i j) r)
lower_one {count} {pot} {size} {w₀} {w} r₀ p i k j hi hk hj a r e l =
    let now = p.reduced in
    kept_trans p (kept_set now i j hi hj r (entry_least (now.entry i j hi hj) (entry_same r₀ w p.scratch i k hi hk e) (now.entry k j hk hj) (swap (number w (cell pot size i j)) (number w (cell pot size k j)) a r l)))
  where
    swap : (x y z r : ℤ) → Least x (y +ℤ z) r → Least x (z +ℤ y) r
    swap x y z r (inl e) = inl e
    swap x y z r (inr (e, h)) = inr (e ∙ turn y z, rw (turn z y) h)
      where
        turn : (y z : ℤ) → y +ℤ z ≡ z +ℤ y
        turn y z = simp ints (omega arith)

-- ---- the entry of a mirror image
module _ {count pot size i k : ℕ} {w : List ℤ} (a : Asked count pot size i k w) (row column : ℕ) (e : row ≡ opposite k) (f : column ≡ opposite i) where
  pub mirror_asked : Asked count pot size row column w
  mirror_asked = asked a.reduced row column (rw e (opposite_lt size k a.reduced.even a.k_lt)) (rw f (opposite_lt size i a.reduced.even a.i_lt))

  pub mirror_ready : (z : ℤ) → z ≡ number w (cell pot size row column) → LowerReady count pot size i k z w
  mirror_ready z q = record {
    ask = a;
    by = entry_opposite a.reduced i k a.i_lt a.k_lt
        (rw (q, e, f) (a.reduced.entry (opposite k) (opposite i) (opposite_lt size k a.reduced.even a.k_lt) (opposite_lt size i a.reduced.even a.i_lt)));
  }

pub own_ready : {count pot size i k : ℕ} {w : List ℤ} (a : Asked count pot size i k w) (z : ℤ) → z ≡ number w (cell pot size i k) → LowerReady count pot size i k z w
own_ready {i} {k} a z e = record { ask = a; by = rw e (a.reduced.entry i k a.i_lt a.k_lt) }

-- ---- the entry from k to its opposite by j: a walk, and the mirror image of one to the opposite of j
module _ {count pot size k j : ℕ} {w : List ℤ} (a : Asked count pot size k j w) (other : ℕ) (e : other ≡ opposite j) where
  pub other_asked : Asked count pot size k other w
  other_asked = asked a.reduced k other a.i_lt (rw e (opposite_lt size j a.reduced.even a.k_lt))

  module _ (x y : ℤ) (p : x ≡ number w (cell pot size k j)) (q : y ≡ number w (cell pot size k other)) where
    first_entry : EntryIn count pot w k j x
    first_entry = rw p (a.reduced.entry k j a.i_lt a.k_lt)

    second_entry : EntryIn count pot w k other y
    second_entry = rw q (a.reduced.entry k other a.i_lt other_asked.k_lt)

    pub own_fits : SFits w64 (x +ℤ y)
    own_fits = entry_sum_fits first_entry second_entry

    pub between_ready : (own : ℕ) → own ≡ opposite k → x +ℤ y ⋖ pos far → LowerReady count pot size k own (x +ℤ y) w
    between_ready own f h =
        let low : own < size = rw f (opposite_lt size k a.reduced.even a.i_lt) in
        let back : EntryIn count pot w j (opposite k) y =
        entry_opposite a.reduced j (opposite k) a.k_lt (opposite_lt size k a.reduced.even a.i_lt) (rw (opposite_twice k, sym e) second_entry) in
        record { ask = asked a.reduced k own a.i_lt low; by = rw f (entry_join first_entry back h) }

-- ---- the row for copies: written by `copy_row`
copied_scratch : (from to size : ℕ) (w w' : List ℤ) → to + size ≤ length w → from + size ≤ length w → length w' ≡ length w
    → w' ≡ take to w ++ take size (drop from w) ++ drop (to + size) w → Scratch to (to + size) w w'
copied_scratch from to size w w' room room' len e = record {
  same_length = len;
  front = ap (take to) (e ∙ append_assoc (take to w) (take size (drop from w)) (drop (to + size) w)) ∙ take_at (take to w) _ to head;
  behind = ap (drop (to + size)) e ∙ drop_at (take to w ++ take size (drop from w)) (drop (to + size) w) (to + size) (length-append (take to w) (take size (drop from w)) ∙ omega (arith, head, mid));
}
  where
    head : length (take to w) ≡ to
    head = length-take-le to w (omega arith)

    mid : length (take size (drop from w)) ≡ size
    mid = length-take-le size (drop from w) (omega (arith, length-drop from w))

pub copied_kept : {count pot size : ℕ} {w : List ℤ} → Reduced count pot size w → (from : ℕ) → from + size ≤ length w → (w' : List ℤ) → length w' ≡ length w
    → w' ≡ take (pot + size) w ++ take size (drop from w) ++ drop (pot + size + size) w → Kept count pot size w w'
copied_kept {count} {pot} {size} {w} r from room w' len e =
    let i : pot + size + size ≡ pot + 2 * size = omega arith in
    kept_copy r w' (subst (λ (k : ℕ). Scratch (pot + size) k w w') i (copied_scratch from (pot + size) size w w' (omega (arith, r.room)) room len e))
