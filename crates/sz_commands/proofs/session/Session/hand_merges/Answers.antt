-- What is carried is carried of the same versions: passes alone were split off.
use Rattle.std.proofs.Common.{ℕ, List, ap₂, ◌∙◌}
use Rattle.std.specs.Prelude.{option_map}
use Rattle.sz_recover.specs.Logs.{Kept}
use Rattle.sz_versions.specs.Residents.{Stored}
use Rattle.sz_commands.specs.States.{SessionState}
use Rattle.sz_commands.specs.Logged.{place_of}
use Rattle.sz_commands.proofs.session.Session.hand_merges.Goals as goal

pub returns : goal.returns
returns g c =
    let made : List Kept → List (ℕ × List Stored) → SessionState =
    λ ks es. record {
      held = c.self.inside.catalogue;
      logged = ks;
      stored = es;
      end = option_map place_of c.self.inside.end;
    } in
    ap₂ made c.hand_merges.ensures.logged c.hand_merges.ensures.stored ∙ c.self.view_is
