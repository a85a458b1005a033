-- `file_list::decode_lines` meets its contract.
use mathlib.Core.Path.{refl, sym, ap, ◌∙◌}
use Prim.Native.Nat.{ℕ, ◌+◌, ◌*◌, ◌-◌}
use native.Mathlib.Omega.{arith}
use Rattle.lines.specs.Limits.{line_size}
use Rattle.lines.specs.Line.{line_numbers_lem}
use Rattle.file_records.specs.Table.{record_size_at_lem}
use Rattle.file_records.specs.Places.{place_first, place_next}
use Rattle.file_list.specs.File.{line_in}
use Rattle.file_list.specs.Decoding.{decoded_none, decoded_more}
use Rattle.file_list.proofs.decode_lines.Goals as goal

pub loop-k-init : goal.loop-k-init
loop-k-init c = let b = c.args.bytes.now in (sym (place_first b), decoded_none b c.args.numbers.now)

pub loop-k-preserved : goal.loop-k-preserved
loop-k-preserved c =
    let b = c.args.bytes.now in
    let k = c.loop-k.k in
    let first = line_size * k in
    let e = c.loop-k.invariant.0 in
    let line = c.decode_line-at.ensures.1 ∙ ap (λ (p : ℕ). line_numbers_lem (line_in b p)) e in (
      c.decode_line-at.ensures.0 ∙ ap (λ (p : ℕ). p + record_size_at_lem b p) e ∙ sym (place_next b k),
      decoded_more b c.args.numbers.now k {f = first} {c = first + line_size - first} refl (omega arith) c.loop-k.invariant.1 line refl,
    )
