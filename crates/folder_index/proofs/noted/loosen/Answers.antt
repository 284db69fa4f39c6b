use Rattle.std.proofs.Common.{◌≡◌, ◌<◌, Some, length, sym, ap, subst, ◌∙◌, arith}
use Rattle.std.specs.Prelude.{bytes_eq, filter, find, not, option_copied, unwrap_or}
use Rattle.folder_index.specs.declared.noted.Noted.{Noted}
use Rattle.folder_index.specs.Noted.{loosened, nothing_of, noted_of}
use Rattle.folder_index.proofs.Noting.{fewer_noted, found_is}
use Rattle.folder_index.proofs.noted.loosen.Goals as goal

pub note-requires : goal.note-requires
note-requires c =
    let d = c.args.device in
    let ks = c.args.noted.now.items in
    let there : find (λ k. bytes_eq k.device d) ks ≡ Some c.in-Some.old.now = ap (find (λ (k : Noted). bytes_eq k.device d)) (sym c.as_slice.ensures.value) ∙ sym c.found.ensures ∙ ap option_copied c.in-Some.is in
    let own : c.loosened-new.result.device ≡ d = ap (λ (k : Noted). k.device) c.loosened-new.ensures ∙ found_is d ks c.in-Some.old.now there in
    let few = subst (λ e. length (filter (λ (k : Noted). not (bytes_eq k.device e)) ks) < length ks) (sym own) (fewer_noted d ks c.in-Some.old.now there) in
    omega (arith, few, c.args.noted.now.ok.0, c.args.noted.now.ok.1)

pub returns-in-Some-clause-here : goal.returns-in-Some-clause-here
returns-in-Some-clause-here c =
    let d = c.args.device in
    let ks = c.args.noted.now.items in
    let there : find (λ k. bytes_eq k.device d) ks ≡ Some c.in-Some.old.now = ap (find (λ (k : Noted). bytes_eq k.device d)) (sym c.as_slice.ensures.value) ∙ sym c.found.ensures ∙ ap option_copied c.in-Some.is in
    let own : c.loosened-new.result.device ≡ d = ap (λ (k : Noted). k.device) c.loosened-new.ensures ∙ found_is d ks c.in-Some.old.now there in
    ap (noted_of c.note.new.noted.items) (sym own) ∙ c.note.ensures.here ∙ c.loosened-new.ensures
    ∙ sym (ap (λ o. loosened (unwrap_or o (nothing_of d))) there)

pub returns-in-Some-clause-others : goal.returns-in-Some-clause-others
returns-in-Some-clause-others c = λ e other.
    let d = c.args.device in
    let ks = c.args.noted.now.items in
    let there : find (λ k. bytes_eq k.device d) ks ≡ Some c.in-Some.old.now = ap (find (λ (k : Noted). bytes_eq k.device d)) (sym c.as_slice.ensures.value) ∙ sym c.found.ensures ∙ ap option_copied c.in-Some.is in
    let own : c.loosened-new.result.device ≡ d = ap (λ (k : Noted). k.device) c.loosened-new.ensures ∙ found_is d ks c.in-Some.old.now there in
    c.note.ensures.others e (λ s. other (s ∙ own))
