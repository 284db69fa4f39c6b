-- What is printed of a command's result.
use Rattle.std.proofs.Common.{◌≡◌, ◌≢◌, ℕ, List, [], ◌++◌, Option, Some, Result, Ok, Err, refl, sym, subst, append-nil}
use Rattle.std.specs.Prelude.{OnOk}
use Rattle.std.specs.declared.alloc.AllocError.{AllocError}
use Rattle.bepd_pair.specs.declared.command.Command.{Command}
use Rattle.bepd_pair.specs.declared.peers.Peers.{Peers}
use Rattle.bepd_pair.specs.declared.refused.Refused.{Refused}
use Rattle.bepd_pair.specs.declared.refused.Refused.TheVariants.{OutOfMemory, UnknownCommand}
use Rattle.bepd_pair.specs.Commands.{IsLineOf}
use Rattle.bepd_pair.specs.Following.{Follows, FollowsText, follows, none}
use Rattle.bepd_pair.specs.Lines.{refused_line}
use Rattle.bepd_pair.specs.Words.{Text}

ok_err : (e : Refused) → let r : Result (Unit {0}) Refused = Ok tt in r ≡ Err e → ⊥
ok_err e h = cc

err_is : (a b : Refused) → let r : Result (Unit {0}) Refused = Err a in r ≡ Err b → a ≡ b
err_is a b h = cc

pub told_done : (line : Text) (command : Command) (old new : Peers) (before after : List ℕ) (r : Result (Unit {0}) Refused) → r ≡ Ok tt → before ≡ [] → Follows command old r before after new → IsLineOf line command
    → FollowsText (Some line) old after new
told_done line command old new before after r done empty h is =
    let h' : Follows command old (Ok tt) [] after new = subst (λ b. Follows command old (Ok tt) b after new) empty (subst (λ x. Follows command old x before after new) done h) in
    follows line command (Ok tt) after refl is h' (ok_err OutOfMemory) (sym (append-nil after))

pub told_refused : (command : Command) (old new : Peers) (before after last : List ℕ) (r : Result (Unit {0}) Refused) (refused : Refused) (told : Result (Unit {0}) AllocError) → r ≡ Err refused → before ≡ []
    → Follows command old r before after new → OnOk told (last ≡ after ++ refused_line refused) → OnOk told (refused ≢ OutOfMemory)
    → OnOk told ((line : Text) → IsLineOf line command → FollowsText (Some line) old last new)
told_refused command old new before after last r refused (Err e) done empty h printed other = tt
told_refused command old new before after last r refused (Ok x) done empty h printed other = λ line is.
    let h' : Follows command old (Err refused) [] after new = subst (λ b. Follows command old (Err refused) b after new) empty (subst (λ x. Follows command old x before after new) done h) in
    follows line command (Err refused) after refl is h' (λ e. other (err_is refused OutOfMemory e)) printed

pub told_none : (text : Option Text) (line : Text) (peers : Peers) (printed : List ℕ) → text ≡ Some line → ((command : Command) → IsLineOf line command → ⊥) → printed ≡ refused_line UnknownCommand
    → FollowsText text peers printed peers
told_none text line peers printed is other e = none line is other e refl

pub told_line : (text : Option Text) (line : Text) (old new : Peers) (printed : List ℕ) → text ≡ Some line → FollowsText (Some line) old printed new → FollowsText text old printed new
told_line text line old new printed is h = subst (λ t. FollowsText t old printed new) (sym is) h
