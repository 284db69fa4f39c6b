-- The laws, for the proofs of other crates.
pub use Rattle.sync_record.proofs.PreferenceOrder.{preference_total, preference_tied, irreflexive, asymmetric, transitive, total}
pub use Rattle.sync_record.proofs.SameRecords.{same_record-is, same_record-own}
