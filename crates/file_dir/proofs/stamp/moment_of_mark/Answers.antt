use Rattle.std.proofs.Common.{◌≡◌, ◌∙◌, sym, Some, None, true, false, ap, bytes_eq}
use Rattle.std.proofs.lemmas.Slice.Eq.{bytes_eq-Decides}
use Rattle.sync_names.specs.Utc.{utc_time}
use Rattle.sync_names.proofs.UtcLemmas.{utc_time_shown}
use Rattle.file_dir.specs.Versions.{version_mark}
use Rattle.file_dir.proofs.VersionLemmas.{read_back, signed8, some_is}
use Rattle.file_dir.proofs.stamp.moment_of_mark.Goals as goal

pub returns-in_err-moment-clause-all : goal.returns-in_err-moment-clause-all
returns-in_err-moment-clause-all c = λ m small e.
    let shown = read_back c.args.mark.now m c.from.result c.from-2.result _ _ _ _ _ small e (λ n h a b. c.from.ensures ∙ signed8 _ n (c.number.ensures.value n h a b) h) (λ n h a b. c.from-2.ensures ∙ signed8 _ n (c.number-2.ensures.value n h a b) h) c.number-3.ensures.value c.number-4.ensures.value c.number-5.ensures.value c.number-6.ensures.value c.number-7.ensures.value in
    let is : c.moment_at.result ≡ Some m = c.moment_at.ensures m (utc_time m) small (utc_time_shown m small) shown in
    let was : c.moment_at.result ≡ None = c.in_err-moment.was in
    cc

pub returns-then-eq-clause-all : goal.returns-then-eq-clause-all
returns-then-eq-clause-all c = λ m small e.
    let shown = read_back c.args.mark.now m c.from.result c.from-2.result _ _ _ _ _ small e (λ n h a b. c.from.ensures ∙ signed8 _ n (c.number.ensures.value n h a b) h) (λ n h a b. c.from-2.ensures ∙ signed8 _ n (c.number-2.ensures.value n h a b) h) c.number-3.ensures.value c.number-4.ensures.value c.number-5.ensures.value c.number-6.ensures.value c.number-7.ensures.value in
    sym c.in_ok-moment.was ∙ c.moment_at.ensures m (utc_time m) small (utc_time_shown m small) shown

pub returns-else-eq-clause-all : goal.returns-else-eq-clause-all
returns-else-eq-clause-all c = λ m small e.
    let shown = read_back c.args.mark.now m c.from.result c.from-2.result _ _ _ _ _ small e (λ n h a b. c.from.ensures ∙ signed8 _ n (c.number.ensures.value n h a b) h) (λ n h a b. c.from-2.ensures ∙ signed8 _ n (c.number-2.ensures.value n h a b) h) c.number-3.ensures.value c.number-4.ensures.value c.number-5.ensures.value c.number-6.ensures.value c.number-7.ensures.value in
    let moment : c.in_ok-moment.moment ≡ m = some_is c.in_ok-moment.moment m (sym c.in_ok-moment.was ∙ c.moment_at.ensures m (utc_time m) small (utc_time_shown m small) shown) in
    let is : c.version_mark.result ≡ c.args.mark.now = c.version_mark.ensures.value ∙ ap version_mark moment ∙ sym e in
    let yes : bytes_eq c.version_mark.result c.args.mark.now ≡ true = (bytes_eq-Decides c.version_mark.result c.args.mark.now).1 is in
    let no : false ≡ true = sym c.if-eq.false ∙ c.eq.ensures ∙ yes in
    cc
