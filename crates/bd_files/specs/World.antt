-- What lies round a call: a disk, files and a sink, as far as they tell, and how often each failed.
use Rattle.std.specs.Prelude.{ℕ, List}
use Rattle.bd_disk.specs.History.{History}
use Rattle.bd_disk.specs.declared.disk.Disk.{Ghosts as DiskGhosts}
use Rattle.bd_files.specs.Sinks.{Handed}
use Rattle.bd_files.specs.declared.files.Files.{Ghosts as FilesGhosts}
use Rattle.bd_files.specs.declared.sink.Sink.{Ghosts as SinkGhosts}
use Rattle.bd_model.specs.FileMap.{FileMap}

-- the counts of faults of a disk, of sources, of targets and of a sink
pub record Faults : Type 0 where
  pub disk : ℕ
  pub sources : ℕ
  pub targets : ℕ
  pub sink : ℕ

abbrev pub counts : ℕ → ℕ → ℕ → ℕ → Faults
counts disk sources targets sink = record { disk = disk; sources = sources; targets = targets; sink = sink }

pub record World : Type 0 where
  pub disk_bytes : ℕ
  pub disk : History
  pub files : FileMap
  pub unfinished : List (List ℕ)
  pub counts : Faults
  -- how often a source wasn't there
  pub strays : ℕ
  -- what the sink was given
  pub handed : List Handed

abbrev pub world : {D F O : Type 0} → DiskGhosts D → FilesGhosts F → SinkGhosts O → D → F → O → World
world d f o disk files out = record {
  disk_bytes = d.bytes disk;
  disk = d.history disk;
  files = f.files files;
  unfinished = f.unfinished files;
  counts = counts (d.faults disk) (f.source_faults files) (f.target_faults files) (o.faults out);
  strays = f.strays files;
  handed = o.handed out;
}

-- the same world with this disk, with these files, and with this sink
abbrev pub with_disk : {D : Type 0} → DiskGhosts D → World → D → World
with_disk d w disk = record w { disk_bytes = d.bytes disk; disk = d.history disk; counts = record w.counts { disk = d.faults disk } }

abbrev pub with_files : {F : Type 0} → FilesGhosts F → World → F → World
with_files f w files = record w {
  files = f.files files;
  unfinished = f.unfinished files;
  counts = record w.counts { sources = f.source_faults files; targets = f.target_faults files };
  strays = f.strays files;
}

abbrev pub with_sink : {O : Type 0} → SinkGhosts O → World → O → World
with_sink o w out = record w { counts = record w.counts { sink = o.faults out }; handed = o.handed out }
