-- A step of the choice of the best.
use Rattle.std.proofs.Common.{◌≡◌, Bool, true, false, sym, ap, ◌∙◌, refl}
use Rattle.std.specs.Prelude.{cond, IsTrue, MatchOption, Option, Some, None}
use Rattle.std.proofs.lemmas.Bool.{true≢false}
use Rattle.sync_record.specs.Preference.{is_preferred}
use Rattle.folder_core.specs.declared.announcement.Announcement.{Announcement as Entry}
use Rattle.folder_core.specs.Plain.{better_of}

abbrev pub Outranks : Option Entry → Entry → Bool → Type 0
Outranks o e b = MatchOption o (IsTrue b) (λ f. b ≡ is_preferred (e.device, e.record) (f.device, f.record))

pub new_best : (o : Option Entry) (e : Entry) (b : Bool) → Outranks o e b → b ≡ true → better_of o e ≡ e
new_best None e b is t = refl
new_best (Some f) e b is t = ap (λ c. cond c e f) (sym is ∙ t)

pub kept_best : (o : Option Entry) (e : Entry) (b : Bool) → Outranks o e b → b ≡ false → Some (better_of o e) ≡ o
kept_best None e b is f = absurd (true≢false (sym is ∙ f))
kept_best (Some g) e b is f = ap (λ c. Some (cond c e g)) (sym is ∙ f)
