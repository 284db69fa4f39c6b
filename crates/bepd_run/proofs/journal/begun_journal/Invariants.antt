use Rattle.std.proofs.Common.{◌≡◌, length, take}
use Rattle.node_journal.specs.Format.{header_bytes, header_len}
use Rattle.bepd_run.proofs.Beginning.{HasFrames}
use Rattle.bepd_run.proofs.journal.begun_journal.Given as goal

abbrev pub invariant-loop-folder : goal.invariant-loop-folder
invariant-loop-folder l = record {
  begun : HasFrames l.header (take l.folder-index l.plans) l.bytes.items;
  long : length (header_bytes l.header) ≡ header_len;
}
