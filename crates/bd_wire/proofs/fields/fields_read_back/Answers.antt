use Rattle.std.proofs.Common.{ap, ◌∙◌, refl, arith}
use Rattle.std.specs.Int.{w32, w64, to_be_bytes, from_be_bytes}
use Rattle.std.proofs.lemmas.Nat.{from_be_bytes-to_be_bytes_4, from_be_bytes-to_be_bytes_8}
use Rattle.bd_wire.proofs.Written.{read-paste}
use Rattle.bd_wire.proofs.fields.fields_read_back.Goals as goal

pub returns-clause-put_u32 : goal.returns-clause-put_u32
returns-clause-put_u32 c = λ into at n within fits.
    ap (from_be_bytes w32) (read-paste into (to_be_bytes w32 n) at 4 (omega arith) refl) ∙ from_be_bytes-to_be_bytes_4 n fits

pub returns-clause-put_u64 : goal.returns-clause-put_u64
returns-clause-put_u64 c = λ into at n within fits.
    ap (from_be_bytes w64) (read-paste into (to_be_bytes w64 n) at 8 (omega arith) refl) ∙ from_be_bytes-to_be_bytes_8 n fits
