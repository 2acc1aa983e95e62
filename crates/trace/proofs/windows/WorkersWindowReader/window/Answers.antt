use Rattle.trace.proofs.windows.WorkersWindowReader.window.Goals as goal

pub read_shared-requires-sync-R : goal.read_shared-requires-sync-R
read_shared-requires-sync-R g c κs within = c.requires.reader.1
