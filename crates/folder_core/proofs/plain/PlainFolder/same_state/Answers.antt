use Rattle.std.proofs.Common.{◌≡◌, map, ap, sym, ◌∙◌}
use Rattle.std.proofs.lemmas.Bool.{eqb-true, eq-eqb, true≢false}
use Rattle.folder_core.specs.Plain.{pulled}
use Rattle.folder_core.proofs.ListTests.{alike_bytes, same_bytes}
use Rattle.folder_core.proofs.PlainRestoreSame.{folder-same, same-parts}
use Rattle.folder_core.proofs.plain.PlainFolder.same_state.Goals as goal
use Rattle.folder_core.proofs.plain.PlainFolder.same_state.Goals.{then-eq, else-eq, then-self-other, else-self-other}

pub returns-then-same_entries : goal.returns-then-same_entries
returns-then-same_entries c =
    let a = c.self.inside in
    let b = c.other.inside in
    elim c.if-self-other.branch [
      | then-self-other w ↦ elim c.if-eq.branch [
        | then-eq v ↦
            let me = same_bytes a.me b.me (sym c.eq.ensures ∙ v.if-eq.true) in
            let last = eqb-true a.last b.last (sym v.value-is ∙ w.if-self-other.true) in
            let entries = sym w.as_slice.ensures.value ∙ w.same_entries.ensures.0 (sym w.value-is ∙ c.if-same_entries.true) ∙ w.as_slice-then-self-other.ensures.value in (
              λ t. sym c.self.view_is
                  ∙ folder-same a.me b.me a.entries.items b.entries.items a.last b.last a.pulls.items b.pulls.items me last entries
                  (ap (map pulled) (sym c.as_slice-then-same_entries.ensures.value) ∙ c.same_pulls.ensures.0 t ∙ ap (map pulled) c.as_slice-then-same_entries-2.ensures.value)
                  ∙ c.other.view_is,
              λ same.
                  let parts = same-parts a.me b.me a.entries.items b.entries.items a.last b.last a.pulls.items b.pulls.items c.self.invariant.rises c.other.invariant.rises c.self.invariant.pulls_rise c.other.invariant.pulls_rise (c.self.view_is ∙ same ∙ sym c.other.view_is) in
                  c.same_pulls.ensures.1 (ap (map pulled) c.as_slice-then-same_entries.ensures.value ∙ parts.3 ∙ ap (map pulled) (sym c.as_slice-then-same_entries-2.ensures.value)),
            )
        | else-eq v ↦ absurd (true≢false (sym w.if-self-other.true ∙ v.value-is ∙ v.if-eq.false))
      ]
      | else-self-other w ↦ absurd (true≢false (sym c.if-same_entries.true ∙ w.value-is ∙ w.if-self-other.false))
    ]

pub returns-else-same_entries : goal.returns-else-same_entries
returns-else-same_entries c =
    let a = c.self.inside in
    let b = c.other.inside in
    let parts = λ (same : c.args.self.now ≡ c.args.other.now). same-parts a.me b.me a.entries.items b.entries.items a.last b.last a.pulls.items b.pulls.items c.self.invariant.rises c.other.invariant.rises c.self.invariant.pulls_rise c.other.invariant.pulls_rise (c.self.view_is ∙ same ∙ sym c.other.view_is) in (
      λ t. absurd (true≢false (sym t ∙ c.if-same_entries.false)),
      elim c.if-self-other.branch [
        | then-self-other w ↦ λ same. w.value-is ∙ w.same_entries.ensures.1 (w.as_slice.ensures.value ∙ (parts same).2 ∙ sym w.as_slice-then-self-other.ensures.value)
        | else-self-other w ↦ elim c.if-eq.branch [
          | then-eq v ↦ λ same. w.value-is ∙ v.value-is ∙ eq-eqb a.last b.last (parts same).1
          | else-eq v ↦ λ same. w.value-is ∙ v.value-is ∙ c.eq.ensures ∙ alike_bytes a.me b.me (parts same).0
        ]
      ],
    )
