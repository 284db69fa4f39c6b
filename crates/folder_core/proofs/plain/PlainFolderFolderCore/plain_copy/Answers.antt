use Rattle.std.proofs.Common.{◌≡◌, length, ap, sym, ◌∙◌, rules}
use Rattle.std.proofs.lemmas.Bool.{true≢false}
use Rattle.folder_core.specs.Plain.{commits}
use Rattle.folder_core.proofs.PlainRestoreSame.{no-entries, no-open}
use Rattle.folder_core.proofs.plain.PlainFolderFolderCore.plain_copy.Goals as goal

pub returns-in_err-copied_entries-clause-nothing : goal.returns-in_err-copied_entries-clause-nothing
returns-in_err-copied_entries-clause-nothing c = λ none closed.
    let f = c.self.inside in
    let es = no-entries f.me f.entries.items f.last f.pulls.items c.args.self.now c.self.view_is c.self.invariant.rises none in
    let ps = no-open f.me f.entries.items f.last f.pulls.items c.args.self.now c.self.view_is c.self.invariant.pulls_rise closed in
    let few : commits c.deref.result.now ≡ 0 = ap commits (c.deref.ensures.value ∙ ps) in
    let count : c.open_commits.result ≡ 0 = c.open_commits.ensures ∙ few in
    let short : length f.entries.items ≡ 0 = ap length es in
    absurd (true≢false (sym (c.in_err-copied_entries.ensures.nothing (let a = c.len.ensures in search rules))))

pub returns-in_err-copied_pulls-clause-nothing : goal.returns-in_err-copied_pulls-clause-nothing
returns-in_err-copied_pulls-clause-nothing c = λ none closed.
    let f = c.self.inside in
    let ps = no-open f.me f.entries.items f.last f.pulls.items c.args.self.now c.self.view_is c.self.invariant.pulls_rise closed in
    absurd (true≢false (sym (c.in_err-copied_pulls.ensures.nothing (ap length (c.as_slice-2.ensures.value ∙ ps)))))
