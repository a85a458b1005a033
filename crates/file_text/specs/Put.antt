-- A text put at a place of a lent list: what stands before it and behind it is as it was.
use Rattle.std.specs.Prelude.{◌≡◌, List, [], ◌++◌, ℕ, ◌+◌, ◌≤◌, length, take, drop}
use Rattle.std.proofs.Common.{sym, ap, subst, ◌∙◌, append_assoc, append-nil, add-zero, arith, length-append, length-take, length-drop, take-append-drop, length-take-le, take_at, drop-drop}
use Rattle.std.proofs.Math.Seq.{drop-append-add}
use Rattle.io.specs.Counts.{IsPrefixLen}

-- `text` is put into d at `at`, which leaves e; r is the place behind it, at most `most` further
pub record Put (most at : ℕ) (text d e : List ℕ) (r : ℕ) : Type 0 where
  pub whole : e ≡ take at d ++ text ++ drop (at + length text) d
  pub next : r ≡ at + length text
  pub near : r ≤ at + most
  pub kept : length e ≡ length d

length_front : (at : ℕ) (text d : List ℕ) → at ≤ length d → length (take at d ++ text) ≡ at + length text
length_front at text d h = simp (length-append, length-take) (omega arith)

length_placed : (at : ℕ) (text d : List ℕ) → at + length text ≤ length d → length (take at d ++ text ++ drop (at + length text) d) ≡ length d
length_placed at text d h = simp (length-append, length-take, length-drop) (omega arith)

-- from the list alone
pub is_put : (most at : ℕ) (text d e : List ℕ) (r : ℕ) → e ≡ take at d ++ text ++ drop (at + length text) d → r ≡ at + length text → length text ≤ most
    → at + most ≤ length d → Put most at text d e r
is_put most at text d e r w n h k = record {
  whole = w;
  next = n;
  near = omega arith;
  kept = ap length w ∙ length_placed at text d (omega arith);
}

-- nothing is put
pub nothing : {at : ℕ} {d : List ℕ} → at ≤ length d → Put 0 at [] d d at
nothing {at} {d} h = is_put 0 at [] d d at (sym w) (omega arith) (omega arith) (omega arith)
  where
    w : take at d ++ [] ++ drop (at + 0) d ≡ d
    w = simp (append-nil, add-zero, take-append-drop)

-- one text put behind another
module _ {m k at : ℕ} {text more d e f : List ℕ} {r s : ℕ} (h : at ≤ length d) (p : Put m at text d e r) (q : Put k r more e f s) where
  take_front : take r e ≡ take at d ++ text
  take_front = rw p.whole (take_at (take at d ++ text) (drop (at + length text) d) r (length_front at text d h ∙ sym p.next))

  drop_behind : drop (r + length more) e ≡ drop (at + length (text ++ more)) d
  drop_behind =
      let n : r + length more ≡ length (take at d ++ text) + length more = omega (arith, length_front at text d h, p.next) in
      let b : at + length text + length more ≡ at + length (text ++ more) = simp length-append (omega arith) in
      ap (λ (l : List ℕ). drop (r + length more) l) p.whole
      ∙ ap (λ (i : ℕ). drop i (take at d ++ text ++ drop (at + length text) d)) n
      ∙ drop-append-add (take at d ++ text) (drop (at + length text) d) (length more)
      ∙ drop-drop (length more) (at + length text) d
      ∙ ap (λ (i : ℕ). drop i d) b

  pub then : Put (m + k) at (text ++ more) d f s
  then = record {
    whole = q.whole
        ∙ ap (λ (l : List ℕ). l ++ more ++ drop (r + length more) e) take_front
        ∙ ap (λ (l : List ℕ). take at d ++ text ++ more ++ l) drop_behind
        ∙ simp append_assoc;
    next = simp length-append (omega (arith, p.next, q.next));
    near = omega arith;
    kept = q.kept ∙ p.kept;
  }

-- the same with more room
pub wider : {m k at : ℕ} {text d e : List ℕ} {r : ℕ} → m ≤ k → Put m at text d e r → Put k at text d e r
wider h p = record { whole = p.whole; next = p.next; near = omega arith; kept = p.kept }

-- the same of a text that is equal
pub same : {m at : ℕ} {text more d e : List ℕ} {r : ℕ} → text ≡ more → Put m at text d e r → Put m at more d e r
same {m} {at} {d = d} {e} {r} q p = subst (λ (t : List ℕ). Put m at t d e r) q p

-- `text` is written at the front of d, which leaves e; r is its length, which counts bytes of e, so that a caller may lend them
pub record Wrote (text d e : List ℕ) (r : ℕ) : Type 0 where
  pub whole : e ≡ text ++ drop r d
  pub count : r ≡ length text
  pub inside : IsPrefixLen r e

pub wrote : {m : ℕ} {text d e : List ℕ} {r : ℕ} → m ≤ length d → Put m 0 text d e r → Wrote text d e r
wrote {m} {text} {d} {e} {r} h p =
    let n : r ≡ length text = omega (arith, p.next) in
    let z : 0 + length text ≡ r = omega (arith, p.next) in
    let i : r ≤ length e = omega (arith, p.near, p.kept) in
    record { whole = p.whole ∙ ap (λ (k : ℕ). text ++ drop k d) z; count = n; inside = (i, sym (length-take-le r e i)) }
