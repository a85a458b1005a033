-- `c_checking::take_bytes` meets its contract. The invariant: the first i numbers are taken, and each has 32 bits.
use mathlib.Core.Path.{◌≡◌, sym, ap, ap₂, ◌∙◌}
use mathlib.Core.List.{List}
use Prim.Native.Nat.{ℕ, ◌*◌, ◌/◌}
use native.Mathlib.Omega.{arith}
use lib.ListN.{length}
use Rattle.little_endian.specs.Bytes.{le32, first_of, next}
use Rattle.check_refutation.specs.declared.Progress.{Progress}
use Rattle.check_refutation.specs.Progress.{start}
use Rattle.check_pieces.specs.Taken.{take_on_lem, take_all}
use Rattle.check_pieces.specs.Cut.{words_snoc, take_snoc}
use Rattle.c_codes.specs.ListBytes.{number_bytes}
use Rattle.c_checking.proofs.take_bytes.Goals as goal

pub loop-i-init : goal.loop-i-init
unfolding first_of take_all
loop-i-init c = (c.begin-kept.ensures, tt)

pub loop-i-preserved : goal.loop-i-preserved
loop-i-preserved c =
    let L = c.args.list.now in
    let b : List ℕ = c.args.refutation.now in
    let i : ℕ = c.loop-i.i in
    let r : ℕ = c.u32_at.result in
    let is : r ≡ le32 b (number_bytes * i) = c.u32_at.ensures in
    let more = next number_bytes le32 b i in (
      c.take_on-kept.ensures
          ∙ ap₂ (λ (k : Progress) (x : ℕ). take_on_lem L k x) c.loop-i.invariant.0 is
          ∙ sym (take_snoc L start (first_of number_bytes le32 b i) (le32 b (number_bytes * i)))
          ∙ ap (take_all L start) more,
      rw (← more) (words_snoc (first_of number_bytes le32 b i) (le32 b (number_bytes * i)) c.loop-i.invariant.1 (rw (← is) c.u32_at.type_inv)),
    )

pub returns : goal.returns
returns c =
    let e : c.loop-i.i ≡ length c.args.refutation.now / number_bytes = omega arith in
    rw (← e) (c.loop-i.invariant.0, c.loop-i.invariant.1)
