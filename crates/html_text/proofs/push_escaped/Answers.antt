use Rattle.std.proofs.Common.{◌++◌, [], string_bytes, encode_utf8, append_assoc, sym, ◌∙◌, ap}
use Rattle.std.proofs.lemmas.List.{append-nil}
use Rattle.html_text.specs.Escaped.Shows.{nothing}
use Rattle.html_text.proofs.Lemmas.{Shows-append}
use Rattle.html_text.proofs.Pushes.{seam}
use Rattle.html_text.proofs.push_escaped.Goals as goal

pub loop-char-init : goal.loop-char-init
loop-char-init c = record {
  piece = [];
  text = [];
  pushed = sym (append-nil (string_bytes c.args.page.now));
  shows = nothing;
  divided = cc;
}

pub truncate-requires : goal.truncate-requires
truncate-requires c _ =
    let before = c.loop-char.invariant in
    let cut = seam c.args.page.now c.push_char.new.page before.piece (c.in-Err.ensures.err ∙ before.pushed) in
    rw c.len-start.ensures (cut.0, λ _. cut.1)

pub loop-char-preserved : goal.loop-char-preserved
loop-char-preserved c =
    let before = c.loop-char.invariant in
    let one = c.in_default.ensures.ok in
    let char = encode_utf8 c.in-Some.char in
    record {
      piece = before.piece ++ one.0;
      text = before.text ++ char;
      pushed = one.1 ∙ ap (λ v. v ++ one.0) before.pushed ∙ append_assoc (string_bytes c.args.page.now) before.piece one.0;
      shows = Shows-append one.0 char before.shows one.2;
      divided = before.divided ∙ ap (λ v. before.text ++ v) c.in-Some.ensures.steps.0 ∙ sym (append_assoc before.text char c.next.new.self.rest.now);
    }
