-- A part of a buffer that numbers are copied over is a store of them.
use mathlib.Core.Path.{◌≡◌, sym, ap, ◌∙◌}
use mathlib.Core.List.{List, append_assoc}
use Prim.Native.Nat.{ℕ, ◌+◌, ◌-◌, ◌≤◌}
use native.Mathlib.Omega.{arith}
use lib.ListN.{length, take, drop}
use borrow.Rule.Slice.PartMut.{put_mid, Post-is}
use Rattle.little_endian.specs.Writing.{put, put_is}

-- the part from i up to e; vs is what was copied
pub put_part : {A : Type 0} (l : List A) (i e : ℕ) (us vs : List A) → us ≡ vs → e ≡ i + length vs → e ≤ length l → put_mid i (e - i) l us ≡ put l i vs
put_part {A} l i e us vs copied size room =
    let behind = Post-is i e l (omega arith) ∙ ap (λ (n : ℕ). drop n l) size in
    rw (copied, behind) (sym (put_is l i vs (omega arith) ∙ append_assoc (take i l) vs (drop (i + length vs) l)))
