-- One round over the lines: the new row behind the old one is the old one relaxed by their plain steps; and where it differs.
use Rattle.std.specs.Prelude.{◌≡◌, List, [], ◌∷◌, ◌++◌, ℕ, ◌+◌, ◌*◌, ◌≤◌, ◌<◌, ℤ, length, take, drop}
use Rattle.std.proofs.Common.{sym, ap, ◌∙◌, arith, take-take}
use Rattle.integers.specs.Integer.{Within}
use Rattle.integers.specs.Lowest.{first_failing_lem}
use Rattle.lines.specs.Line.{number, line_at, line_count}
use Rattle.steps.specs.declared.Step.{Step}
use Rattle.steps.specs.Step.{max_weight}
use Rattle.theory_walks.specs.Size.{WithinWeights}
use Rattle.theory_differences.specs.Plain.{plain_step_lem}
use Rattle.theory_differences.specs.Numbers.{plain_before, before_more, before_all}
use Rattle.decide_rows.specs.Copy.{copied}
use Rattle.decide_rows.specs.Read.{distance_of, row_of, Short, AllShort, max_distance}
use Rattle.decide_rows.specs.Relax.{relax_in, relaxed_by, entry_short, one_step, no_step, relaxed_first, relaxed_length, relaxed_more, copy_long, copy_first, copy_end}
use Rattle.decide_rows.specs.Next.{same_at, row_in, with_next, in_length, part_next, after_is}
use Rattle.engine_packed_steps.specs.Steps.{tabulate_all}
use Rattle.differences_lines.specs.PlainList.{PlainList, plain_of, ends_within, weights_within, step_among}

-- two rows one behind the other, the first of small numbers
pub record RoundReady (n : ℕ) (L rows : List ℤ) : Type 0 where
  pub plain : PlainList n L
  pub long : length rows ≡ 2 * n
  pub short : AllShort max_distance (row_of (take n rows))

-- what one line asks
pub record StepReady (n : ℕ) (rows : List ℤ) (t : Step) : Type 0 where
  pub from_lt : t.from < n
  pub to_lt : t.to < n
  pub small : Within max_weight t.weight
  pub short : Short max_distance (distance_of (number rows t.from))

module _ (n : ℕ) (L rows : List ℤ) (r : RoundReady n L rows) (k : ℕ) (h : k < line_count L) where
  abbrev t : Step
  t = plain_step_lem (line_at L k)

  pub step_ready : StepReady n rows (plain_step_lem (line_at L k))
  step_ready =
      let i = step_among r.plain k h in
      let e = ends_within r.plain t i in
      record { from_lt = e.0; to_lt = e.1; small = weights_within r.plain t i; short = entry_short n rows r.long max_distance t.from e.0 r.short }

  pub step_done : (s : Step) → s ≡ plain_step_lem (line_at L k) → (rows' : List ℤ) → rows' ≡ relax_in rows n s.from s.to s.weight → rows' ≡ relaxed_by n rows (plain_step_lem (line_at L k) ∷ [])
  step_done s e rows' d =
      d ∙ ap (λ (x : Step). relax_in rows n x.from x.to x.weight) e ∙ one_step n rows r.long t step_ready.from_lt step_ready.to_lt

-- ---- the loop over the lines, after the first k; it began with rows₀
pub record Gone (n : ℕ) (L rows₀ rows : List ℤ) (k : ℕ) : Type 0 where
  pub count : k ≤ line_count L
  pub is : rows ≡ relaxed_by n rows₀ (plain_before L k)

module _ (n : ℕ) (L rows₀ : List ℤ) (r : RoundReady n L rows₀) where
  before_weights : (k : ℕ) → k ≤ line_count L → WithinWeights max_weight (plain_before L k)
  before_weights k h = tabulate_all (λ (t : Step). Within max_weight t.weight) k (λ j. plain_step_lem (line_at L j)) (λ i l. weights_within r.plain _ (step_among r.plain i (omega arith)))

  pub gone_start : Gone n L rows₀ rows₀ 0
  gone_start = record { count = omega arith; is = no_step n rows₀ r.long }

  module _ (rows : List ℤ) (k : ℕ) (g : Gone n L rows₀ rows k) where
    pub gone_ready : RoundReady n L rows
    gone_ready =
        record {
          plain = r.plain;
          long = ap length g.is ∙ relaxed_length n rows₀ r.long (plain_before L k);
          short = rw (ap (take n) g.is ∙ relaxed_first n rows₀ r.long (plain_before L k)) r.short;
        }

    pub gone_more : k < line_count L → (rows' : List ℤ) → rows' ≡ relaxed_by n rows (plain_step_lem (line_at L k) ∷ []) → Gone n L rows₀ rows' (k + 1)
    gone_more h rows' e =
        record {
          count = omega arith;
          is =
              e ∙ ap (λ (x : List ℤ). relaxed_by n x (plain_step_lem (line_at L k) ∷ [])) g.is
              ∙ relaxed_more n rows₀ r.long (plain_before L k) r.short (before_weights k g.count) (plain_step_lem (line_at L k) ∷ [])
              ∙ ap (relaxed_by n rows₀) (sym (before_more L k));
        }

    pub gone_end : k ≡ line_count L → rows ≡ relaxed_by n rows₀ (plain_of L)
    gone_end e = g.is ∙ ap (relaxed_by n rows₀) (ap (plain_before L) e ∙ before_all L)

-- the old row copied behind itself
pub twice_ready : (n : ℕ) (L rows rows₀ : List ℤ) → RoundReady n L rows → rows₀ ≡ copied rows 0 n n → RoundReady n L rows₀
twice_ready n L rows rows₀ r e = record { plain = r.plain; long = copy_long n rows rows₀ r.long e; short = rw (copy_first n rows rows₀ r.long e) r.short }

pub twice_end : (n : ℕ) (L rows rows₀ : List ℤ) → RoundReady n L rows → rows₀ ≡ copied rows 0 n n → relaxed_by n rows₀ (plain_of L) ≡ with_next (plain_of L) (take n rows)
twice_end n L rows rows₀ r e = copy_end n rows rows₀ r.long e (plain_of L)

-- ---- in the work area
pub record NextReady (n : ℕ) (L w : List ℤ) (from : ℕ) : Type 0 where
  pub plain : PlainList n L
  pub room : from + 2 * n ≤ length w
  pub short : AllShort max_distance (row_of (row_in n w from))

-- the row at `from` stays, the next row stands behind it, all else is as it was, and v is the first place where they differ
pub record NextDone (n : ℕ) (E : List Step) (w : List ℤ) (from : ℕ) (w' : List ℤ) (v : ℕ) : Type 0 where
  pub is : w' ≡ take from w ++ (with_next E (row_in n w from) ++ drop (from + 2 * n) w)
  pub changed : v ≡ first_failing_lem n (same_at n (with_next E (row_in n w from)))

pub part_ready : (n : ℕ) (L w : List ℤ) (from k : ℕ) → k ≡ 2 * n → NextReady n L w from → RoundReady n L (take k (drop from w))
part_ready n L w from k e a =
    record {
      plain = a.plain;
      long = in_length k w from (omega (arith, a.room)) ∙ e;
      short = rw (take-take n k (drop from w) (omega arith)) a.short;
    }

-- a part of k numbers that was lent, came back as `part`, and was then looked at
pub next_done : (n from k : ℕ) (E : List Step) (w part : List ℤ) → k ≡ 2 * n → from + 2 * n ≤ length w → part ≡ with_next E (take n (take k (drop from w)))
    → (v : ℕ) → v ≡ first_failing_lem n (same_at n (take k (drop from (take from w ++ (part ++ drop k (drop from w)))))) → NextDone n E w from (take from w ++ (part ++ drop k (drop from w))) v
next_done n from k E w part ek room ep v ev = record {
  is = after_is n from k E w part ek room ep;
  changed = ev ∙ ap (λ (rows : List ℤ). first_failing_lem n (same_at n rows)) (part_next n from k E w part ek room ep);
}
