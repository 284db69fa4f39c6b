use Rattle.std.proofs.Common.{Bool, true, false, [], ◌∷◌, refl, sym, subst}
use Rattle.std.specs.Prelude.{bytes_eq, cond, map}
use Rattle.std.specs.List.{AllByRecursion}
use Rattle.node_journal.specs.declared.part.Part.{Part}
use Rattle.node_saver.specs.Frames.{last_of}
use Rattle.sync_record.specs.Infos.{info_of}
use Rattle.proof_journal.specs.Appended.{IsSilent}
use Rattle.proof_journal.proofs.Joins.{no-part, none-behind}
use Rattle.proof_journal.proofs.appended.other_frames_tell_none.Goals as goal

kept-or-not : (p : Part) → IsSilent p → (b : Bool) → AllByRecursion IsSilent (cond b (p ∷ []) [])
kept-or-not p empty true = (empty, tt)
kept-or-not p empty false = tt

pub returns-clause-plans : goal.returns-clause-plans
returns-clause-plans c = λ f id plans. kept-or-not _ (refl, refl) (bytes_eq f.id id)

pub returns-clause-closing : goal.returns-clause-closing
returns-clause-closing c = λ id. tt

pub returns-clause-others : goal.returns-clause-others
returns-clause-others c = λ f id rs apart.
    subst (AllByRecursion IsSilent) (sym (no-part (record { id = f.id; index_id = f.index_id; last = last_of rs; records = map info_of rs; plans = [] }) id apart)) tt

pub returns-clause-between : goal.returns-clause-between
returns-clause-between c = λ f pages frames frame have tells. none-behind f frame tells pages frames have
