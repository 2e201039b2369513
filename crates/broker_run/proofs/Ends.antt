-- How serving links ended.
use Rattle.std.proofs.Common.{◌≡◌, ◌≢◌, ◌⊎◌, ℕ, Bool, true, refl}
use Rattle.edge_io.specs.Causes.{Rose}
use Rattle.edge_io.specs.Serving.{Gave}
use Rattle.broker_run.specs.Homes.{HasLinksEnd}
use Rattle.broker_run.specs.declared.jobs.LinksEnd.{LinksEnd}
use Rattle.broker_run.specs.declared.jobs.LinksEnd.TheVariants.{Served, Listener, Refused, NoMemory}

pub links_end : (e : LinksEnd) (accept g h : ℕ) (done : Bool) (f n r s : ℕ) → (e ≡ Served → Gave g accept h ⊎ (done ≡ true)) → (e ≡ Listener → Rose f n)
    → e ≢ Refused → HasLinksEnd e accept g h done f n r s
links_end Served accept g h done f n r s a b k = a refl
links_end Listener accept g h done f n r s a b k = b refl
links_end Refused accept g h done f n r s a b k = absurd (k refl)
links_end NoMemory accept g h done f n r s a b k = tt
