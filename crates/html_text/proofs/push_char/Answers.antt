use Rattle.std.proofs.Common.{[], arith}
use Rattle.std.proofs.Math.Utf8.{encode}
use Rattle.html_text.specs.Escaped.Shows.{nothing, quot, amp, apostrophe, lt, gt}
use Rattle.html_text.proofs.Lemmas.{Shows-encode}
use Rattle.html_text.proofs.Pushes.{pushed}
use Rattle.html_text.proofs.push_char.Goals as goal

pub returns-in-34-clause-ok : goal.returns-in-34-clause-ok
unfolding encode
returns-in-34-clause-ok c = pushed _ _ _ _ _ c.push_str.ensures.bytes (rw c.in-34.is (quot [] [] nothing))

pub returns-in-38-clause-ok : goal.returns-in-38-clause-ok
unfolding encode
returns-in-38-clause-ok c = pushed _ _ _ _ _ c.push_str-in-38.ensures.bytes (rw c.in-38.is (amp [] [] nothing))

pub returns-in-39-clause-ok : goal.returns-in-39-clause-ok
unfolding encode
returns-in-39-clause-ok c = pushed _ _ _ _ _ c.push_str-in-39.ensures.bytes (rw c.in-39.is (apostrophe [] [] nothing))

pub returns-in-60-clause-ok : goal.returns-in-60-clause-ok
unfolding encode
returns-in-60-clause-ok c = pushed _ _ _ _ _ c.push_str-in-60.ensures.bytes (rw c.in-60.is (lt [] [] nothing))

pub returns-in-62-clause-ok : goal.returns-in-62-clause-ok
unfolding encode
returns-in-62-clause-ok c = pushed _ _ _ _ _ c.push_str-in-62.ensures.bytes (rw c.in-62.is (gt [] [] nothing))

pub returns-in_default-clause-ok : goal.returns-in_default-clause-ok
returns-in_default-clause-ok c =
    pushed _ _ _ _ _ c.push.ensures.bytes (Shows-encode c.args.char (omega arith, omega arith, omega arith, omega arith, omega arith))
