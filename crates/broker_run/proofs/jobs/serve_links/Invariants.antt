use Rattle.std.proofs.Common.{Some}
use Rattle.broker_run.proofs.jobs.serve_links.Given as goal

abbrev pub ghosts-serve_named : goal.ghosts-serve_named
ghosts-serve_named g a = record { shared = Some a.shared }
