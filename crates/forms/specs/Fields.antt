-- The field that an order names.
use Rattle.std.specs.Prelude.{ℕ, Ok, Err}
use Rattle.field.specs.Codes.{Codes}
use Rattle.field.specs.Residues.{residues}
use Rattle.field256.specs.Polynomials.{polynomials}
use Rattle.reader.specs.declared.order.FieldOrder.{FieldOrder}
use Rattle.reader.specs.declared.order.FieldOrder.TheVariants.{Two, Three, Five, Seven, TwoFiftyOne, TwoFiftySix}
use Rattle.reader.specs.Named.{order_named}

-- the residues by a prime, and the polynomials over two elements
abbrev pub codes_of : FieldOrder → Codes
codes_of Two = residues 2
codes_of Three = residues 3
codes_of Five = residues 5
codes_of Seven = residues 7
codes_of TwoFiftyOne = residues 251
codes_of TwoFiftySix = polynomials

-- the field of an order; another number than 2, 3, 5, 7 and 251 is taken for 256
abbrev pub order_of : ℕ → FieldOrder
order_of n = elim (order_named n) [ Ok order ↦ order | Err f ↦ TwoFiftySix ]
