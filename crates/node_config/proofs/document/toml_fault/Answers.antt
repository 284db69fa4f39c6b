use Rattle.std.proofs.Common.{refl, arith}
use Rattle.node_config.proofs.document.toml_fault.Goals as goal

pub returns-in-Some-clause-within : goal.returns-in-Some-clause-within
returns-in-Some-clause-within c = λ known. (c.line_of.result, refl, (c.in-Some.span.start, omega (arith, c.requires, c.in-Some.ensures.range), c.line_of.ensures))
