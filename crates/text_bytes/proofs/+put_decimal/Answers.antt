-- `put_decimal`, which calls itself on ever smaller numbers, keeps its contract.
use mathlib.Core.Path.{ap}
use native.Mathlib.Omega.{arith}
use lib.ListN.{length}
use Rattle.model.proofs.Decimals.{decimal_one, decimal_more, decimal_longer}
use Rattle.text_bytes.proofs.Appended.{append_then}
use Rattle.text_bytes.proofs.+put_decimal.Goals as goal

pub put_byte-requires : goal.put_byte-requires
put_byte-requires t c = omega (arith, ap length (decimal_one _ c.if-value-lt10.true))

pub returns-then-value-lt10 : goal.returns-then-value-lt10
returns-then-value-lt10 t c = rw (decimal_one _ c.if-value-lt10.true) c.put_byte.ensures

pub put_decimal-last-requires : goal.put_decimal-last-requires
put_decimal-last-requires t c = (omega arith, omega (arith, decimal_longer _ c.if-value-lt10.false))

pub put_byte-requires-2 : goal.put_byte-requires-2
put_byte-requires-2 t c = omega (arith, decimal_longer _ c.if-value-lt10.false, c.put_decimal-last.ensures.ended)

pub returns : goal.returns
returns t c =
    rw (decimal_more _ c.if-value-lt10.false) (append_then c.put_decimal-last.ensures c.put_byte-2.ensures)
