-- What a caller sees and asks, one call after the other.
use Rattle.std.proofs.Common.{◌≡◌, List, [], ◌++◌, refl, sym, ap, subst, ◌∙◌, append_assoc, append-nil}
use Rattle.std.specs.Prelude.{Some}
use mathlib.Core.List.{IsPrefix}
use Rattle.folder_core.specs.declared.answer.Answer.{Answer}
use Rattle.folder_core.specs.declared.change.Change.{Change}
use Rattle.folder_calls.specs.Histories.{own_entries}
use Rattle.folder_calls.specs.Shared.{CallerView, ChangesAt, Gets, Sees}
use Rattle.folder_calls.specs.declared.at.At.{At}
use Rattle.folder_calls.specs.declared.entry.Entry.{Entry}

pub sees-itself : (v : CallerView) → Sees v v
sees-itself v = record { longer = ([], append-nil v.seen); own = refl; same = refl }

pub longer : (a b c : List Entry) → IsPrefix a b → IsPrefix b c → IsPrefix a c
longer a b c x y = (x.0 ++ y.0, sym (append_assoc a x.0 y.0) ∙ ap (λ l. l ++ y.0) x.1 ∙ y.1)

pub sees-together : (a b c : CallerView) → Sees a b → Sees b c → Sees a c
sees-together a b c x y =
    let pass : b.pass ≡ a.pass = ap (λ (v : CallerView). v.pass) x.same in
    record {
      longer = longer a.seen b.seen c.seen x.longer y.longer;
      own = subst (λ p. own_entries p c.seen ≡ own_entries p b.seen) pass y.own ∙ x.own;
      same = y.same ∙ ap (λ (v : CallerView). record v { seen = c.seen }) x.same;
    }

pub gets : (old new : CallerView) (c : Change) (reply : At Answer) (a : Answer) → ChangesAt old c (Some reply) new → reply.value ≡ a → Gets old c a new
gets old new c reply a changes is = subst (λ b. Gets old c b new) is (record { point = refl; legal = changes.legal; answered = changes.answered })
