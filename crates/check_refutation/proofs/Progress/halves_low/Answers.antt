-- `check_refutation::Progress::halves_low` meets its contract: the halves do not overflow.
use Rattle.std.specs.Prelude.{◌≡◌, ◌+ℤ◌}
use Rattle.std.specs.Int.{w64}
use Rattle.std.proofs.Common.{◌∙◌, ap, to_z, of_z, to_z-of_z, SFits}
use Rattle.integers.specs.Integer.{half}
use Rattle.integers.proofs.Bits.{kept}
use Rattle.integers.proofs.Linear.{ints, zs}
use Rattle.steps.specs.Step.{max_weight}
use Rattle.check_refutation.specs.declared.Progress.{Progress}
use Rattle.check_refutation.specs.Small.{Small, first_within, second_within}
use Rattle.check_refutation.proofs.Progress.halves_low.Goals as goal

module _ (s : Progress) (small : Small max_weight s) where
  first_fits : SFits w64 s.first
  first_fits = let f = first_within max_weight s small in simp ints (omega zs)

  second_fits : SFits w64 s.second
  second_fits = let f = second_within max_weight s small in simp ints (omega zs)

  halves_fit : SFits w64 (half s.first +ℤ half s.second)
  halves_fit =
      let f = first_within max_weight s small in
      let g = second_within max_weight s small in
      simp ints (omega zs)

pub returns : goal.returns
returns c =
    let s = c.args.self in
    let first : to_z w64 (of_z w64 c.halved.result) ≡ half s.first = kept w64 _ c.halved.type_inv ∙ c.halved.ensures ∙ ap half (to_z-of_z (first_fits s c.requires)) in
    let second : to_z w64 (of_z w64 c.halved-2.result) ≡ half s.second = kept w64 _ c.halved-2.type_inv ∙ c.halved-2.ensures ∙ ap half (to_z-of_z (second_fits s c.requires)) in
    rw (first, second, to_z-of_z (halves_fit s c.requires))
