use Rattle.std.proofs.Common.{◌∙◌, ℕ, refl, sym}
use Rattle.std.specs.List.{zip}
use Rattle.std.proofs.lemmas.Slice.Zip.{firsts-zip, seconds-zip}
use Rattle.folder_core.specs.States.{FolderState}
use Rattle.node_config.specs.declared.config.FolderConfig.{FolderConfig}
use Rattle.node_resume.specs.Left.{stored_at}
use Rattle.node_state.specs.declared.state.StoredFolder.{StoredFolder}
use Rattle.proof_node.proofs.LeftPlaces.{left-counted, long}
use Rattle.proof_node.proofs.Places.{firsts-listed, seconds-listed}
use Rattle.proof_node.proofs.left.each_folder_is_left_in_its_place.Goals as goal

pub returns : goal.returns
returns c = record {
  count = λ run fits. left-counted run.config run.index_ids run.shares run.records run.kept fits.0 fits.1;
  ids = λ run fits.
      firsts-listed (stored_at run.config run.shares run.kept) (λ (f : StoredFolder). f.id) (λ (f : FolderConfig). f.id) (λ i x z. refl) 0 run.config.folders (zip run.index_ids run.records) (long run.config run.index_ids run.records fits.0 fits.1);
  index_ids = λ run fits.
      seconds-listed (stored_at run.config run.shares run.kept) (λ (f : StoredFolder). f.index_id) (λ (z : ℕ × FolderState). z.0) (λ i x z. refl) 0 run.config.folders (zip run.index_ids run.records) (long run.config run.index_ids run.records fits.0 fits.1)
      ∙ firsts-zip run.index_ids run.records (fits.1 ∙ sym fits.0);
  records = λ run fits.
      seconds-listed (stored_at run.config run.shares run.kept) (λ (f : StoredFolder). f.folder) (λ (z : ℕ × FolderState). z.1) (λ i x z. refl) 0 run.config.folders (zip run.index_ids run.records) (long run.config run.index_ids run.records fits.0 fits.1)
      ∙ seconds-zip run.index_ids run.records (fits.1 ∙ sym fits.0);
}
