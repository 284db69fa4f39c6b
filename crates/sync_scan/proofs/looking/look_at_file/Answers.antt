use Rattle.std.proofs.Common.{◌≡◌, ◌≤◌, ◌∙◌, rules, arith, true, false, refl, ap, subst, sym, None, Some}
use Rattle.std.specs.Prelude.{option_copied}
use Rattle.file_store.specs.Sequences.{IsLook, LooksOnly, Since, not_called}
use Rattle.file_store.specs.Trees.{bytes_of}
use Rattle.file_store.proofs.SequenceLemmas.{called_on}
use Rattle.sync_blocks.specs.Sizes.{block_size_for}
use Rattle.sync_scan.specs.Looks.{are_recorded, block_size_of, max_file_size, recorded_block_size}
use Rattle.sync_scan.proofs.LookLemmas.{looks_after}
use Rattle.sync_scan.proofs.FoundLemmas.{file-there, file-told, size-of-new, size-of-other, size-of-own, size-of-same}
use Rattle.sync_scan.proofs.looking.look_at_file.Goals as goal
use Rattle.sync_scan.proofs.looking.look_at_file.Goals.{then-recorded-own-via-then-recorded-own, then-recorded-own-via-else-recorded-own+then-are_recorded, in-Some+in_ok-blocks+in-Some-2+else-recorded-own+else-are_recorded, in_default}

pub returns-in_default-2-clause-told : goal.returns-in_default-2-clause-told
returns-in_default-2-clause-told g c = λ first looks. (omega arith, (rw c.in_default-2.is at c.in_ok-blocks.ensures.other first looks) refl)

pub returns-then-recorded-own-clause-there : goal.returns-then-recorded-own-clause-there
returns-then-recorded-own-clause-there g c = λ keeps same.
    let local = option_copied c.args.local in
    let recorded = c.in-Some.recorded in
    let blocks = c.in-Some-2.blocks.items in
    let read = rw c.in-Some-2.is at c.in_ok-blocks.ensures.read in
    let is : recorded_block_size local c.args.file.size ≡ Some recorded = sym c.in-Some.ensures.value in
    let chosen : block_size_of local read.0 ≡ recorded = elim c.then-recorded-own.branch [
      | then-recorded-own-via-then-recorded-own w ↦ size-of-own local read.0 c.args.file.size read.1 recorded blocks is read.2 (let own : recorded ≡ block_size_for c.args.file.size = search rules in own)
      | then-recorded-own-via-else-recorded-own+then-are_recorded w ↦
          size-of-same local read.0 c.args.file.size read.1 recorded blocks is read.2 (let one : are_recorded local c.args.file.size blocks ≡ true = search rules in one)
    ] in
    file-there g.S.FileStore.gives c.args.name.now local c.args.file.size c.args.file.modified c.found_file.result (omega arith) read.0 read.0 recorded read.1 read.1 chosen
    (c.found_file.ensures read.0 read.1 read.2) _ (read.3 keeps) (read.3 keeps)

pub returns-then-recorded-own-clause-told : goal.returns-then-recorded-own-clause-told
returns-then-recorded-own-clause-told g c = λ first looks.
    let local = option_copied c.args.local in
    let recorded = c.in-Some.recorded in
    let blocks = c.in-Some-2.blocks.items in
    let read = rw c.in-Some-2.is at c.in_ok-blocks.ensures.read in
    let is : recorded_block_size local c.args.file.size ≡ Some recorded = sym c.in-Some.ensures.value in
    let chosen : block_size_of local read.0 ≡ recorded = elim c.then-recorded-own.branch [
      | then-recorded-own-via-then-recorded-own w ↦ size-of-own local read.0 c.args.file.size read.1 recorded blocks is read.2 (let own : recorded ≡ block_size_for c.args.file.size = search rules in own)
      | then-recorded-own-via-else-recorded-own+then-are_recorded w ↦
          size-of-same local read.0 c.args.file.size read.1 recorded blocks is read.2 (let one : are_recorded local c.args.file.size blocks ≡ true = search rules in one)
    ] in
    file-told (Since g.S.FileStore.gives first) c.args.name.now local c.args.file.size c.args.file.modified c.found_file.result (omega arith) read.0 read.0 recorded read.1 read.1 chosen
    (c.found_file.ensures read.0 read.1 read.2) (read.4 first looks) (read.4 first looks)

pub returns-in_default-3-clause-told : goal.returns-in_default-3-clause-told
returns-in_default-3-clause-told g c = λ first looks.
    let gives = g.S.FileStore.gives in
    let other = c.in_ok-blocks-2.ensures.other first (elim c.match-recorded_block_size.branch [
      | in-Some+in_ok-blocks+in-Some-2+else-recorded-own+else-are_recorded w ↦ called_on gives IsLook first c.args.store.now _ looks (subst (LooksOnly gives c.args.store.now) (sym w.store-is) w.in_ok-blocks.ensures.looks)
      | in_default w ↦ subst (LooksOnly gives first) (sym w.store-is) looks
    ]) in
    (omega arith, (rw c.in_default-3.is at other) refl)

pub returns-clause-there : goal.returns-clause-there
returns-clause-there g c = λ keeps same.
    let local = option_copied c.args.local in
    let size = c.args.file.size in
    let own = c.block_size_for-own.result in
    let fits : size ≤ max_file_size = omega arith in
    let read = rw c.in-Some-3.is at c.in_ok-blocks-2.ensures.read in
    elim c.match-recorded_block_size.branch [
      | in-Some+in_ok-blocks+in-Some-2+else-recorded-own+else-are_recorded w ↦
          let first = rw w.in-Some-2.is at w.in_ok-blocks.ensures.read in
          let other : are_recorded local size w.in-Some-2.blocks.items ≡ false = search rules in
          let chosen = size-of-other local first.0 size first.1 w.in-Some.recorded w.in-Some-2.blocks.items (sym w.in-Some.ensures.value) first.2 other ∙ sym c.block_size_for-own.ensures in
          let there = ap (λ t. bytes_of (t.names c.args.name.now)) (w.in_ok-blocks.ensures.kept keeps) in
          file-there g.S.FileStore.gives c.args.name.now local size c.args.file.modified c.found_file-2.result fits first.0 read.0 own first.1 read.1 chosen
          (c.found_file-2.ensures read.0 read.1 read.2) _ (first.3 keeps) (read.3 keeps ∙ ap (λ s. bytes_of ((g.S.FileStore.tree s).names c.args.name.now)) w.store-is ∙ there)
      | in_default w ↦
          let none : recorded_block_size local size ≡ None = search rules in
          let chosen = size-of-new local read.0 size read.1 none ∙ sym c.block_size_for-own.ensures in
          let there = read.3 keeps ∙ ap (λ s. bytes_of ((g.S.FileStore.tree s).names c.args.name.now)) w.store-is in
          file-there g.S.FileStore.gives c.args.name.now local size c.args.file.modified c.found_file-2.result fits read.0 read.0 own read.1 read.1 chosen
          (c.found_file-2.ensures read.0 read.1 read.2) _ there there
    ]

pub returns-clause-told : goal.returns-clause-told
returns-clause-told g c = λ start looks.
    let gives = g.S.FileStore.gives in
    let local = option_copied c.args.local in
    let size = c.args.file.size in
    let own = c.block_size_for-own.result in
    let read = rw c.in-Some-3.is at c.in_ok-blocks-2.ensures.read in
    let fits : size ≤ max_file_size = omega arith in
    elim c.match-recorded_block_size.branch [
      | in-Some+in_ok-blocks+in-Some-2+else-recorded-own+else-are_recorded w ↦
          let first = rw w.in-Some-2.is at w.in_ok-blocks.ensures.read in
          let other : are_recorded local size w.in-Some-2.blocks.items ≡ false = search rules in
          let chosen = size-of-other local first.0 size first.1 w.in-Some.recorded w.in-Some-2.blocks.items (sym w.in-Some.ensures.value) first.2 other ∙ sym c.block_size_for-own.ensures in
          let then = called_on gives IsLook start c.args.store.now _ looks (subst (LooksOnly gives c.args.store.now) (sym w.store-is) w.in_ok-blocks.ensures.looks) in
          file-told (Since gives start) c.args.name.now local size c.args.file.modified c.found_file-2.result fits first.0 read.0 own first.1 read.1 chosen
          (c.found_file-2.ensures read.0 read.1 read.2) (first.4 start looks) (read.4 start then)
      | in_default w ↦
          let none : recorded_block_size local size ≡ None = search rules in
          let chosen = size-of-new local read.0 size read.1 none ∙ sym c.block_size_for-own.ensures in
          let then = subst (LooksOnly gives start) (sym w.store-is) looks in
          file-told (Since gives start) c.args.name.now local size c.args.file.modified c.found_file-2.result fits read.0 read.0 own read.1 read.1 chosen
          (c.found_file-2.ensures read.0 read.1 read.2) (read.4 start then) (read.4 start then)
    ]

pub returns-then-size-gt-MAX_FILE_SIZE-clause-looks : goal.returns-then-size-gt-MAX_FILE_SIZE-clause-looks
returns-then-size-gt-MAX_FILE_SIZE-clause-looks g c = not_called

pub returns-in_err-blocks-2-clause-looks : goal.returns-in_err-blocks-2-clause-looks
returns-in_err-blocks-2-clause-looks g c =
    let gives = g.S.FileStore.gives in
    looks_after gives c.args.store.now _ _ c.in_err-blocks-2.ensures.looks (elim c.match-recorded_block_size.branch [
      | in-Some+in_ok-blocks+in-Some-2+else-recorded-own+else-are_recorded w ↦ subst (LooksOnly gives c.args.store.now) (sym w.store-is) w.in_ok-blocks.ensures.looks
      | in_default w ↦ subst (LooksOnly gives c.args.store.now) (sym w.store-is) not_called
    ])

pub returns-in_default-3-clause-looks : goal.returns-in_default-3-clause-looks
returns-in_default-3-clause-looks g c =
    let gives = g.S.FileStore.gives in
    looks_after gives c.args.store.now _ _ c.in_ok-blocks-2.ensures.looks (elim c.match-recorded_block_size.branch [
      | in-Some+in_ok-blocks+in-Some-2+else-recorded-own+else-are_recorded w ↦ subst (LooksOnly gives c.args.store.now) (sym w.store-is) w.in_ok-blocks.ensures.looks
      | in_default w ↦ subst (LooksOnly gives c.args.store.now) (sym w.store-is) not_called
    ])

pub returns-clause-looks : goal.returns-clause-looks
returns-clause-looks g c =
    let gives = g.S.FileStore.gives in
    looks_after gives c.args.store.now _ _ c.in_ok-blocks-2.ensures.looks (elim c.match-recorded_block_size.branch [
      | in-Some+in_ok-blocks+in-Some-2+else-recorded-own+else-are_recorded w ↦ subst (LooksOnly gives c.args.store.now) (sym w.store-is) w.in_ok-blocks.ensures.looks
      | in_default w ↦ subst (LooksOnly gives c.args.store.now) (sym w.store-is) not_called
    ])
