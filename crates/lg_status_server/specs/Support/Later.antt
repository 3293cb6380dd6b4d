-- Each state of a site is later than itself, and what is later than a later state is later.
use Rattle.std.proofs.Common.{List, refl, ◌∙◌, inl, arith}
use mathlib.Core.List.{IsPrefix}
use Rattle.lg_detector.specs.declared.event.Event.{Event}
use Rattle.lg_follow.proofs.SightLaws.{looked_through, prefix_itself, prefix_through}
use Rattle.lg_status_server.specs.Meaning.Shown.{SiteShows, SiteValue, IsLater}

pub later_itself : (site : SiteValue) → IsLater site site
later_itself site = record {
  looked = inl refl;
  shows = λ shown shows. (shown, prefix_itself shown, shows);
  version_rises = omega arith;
  name_is = refl;
  config_is = refl;
  leave_is = refl;
  folder_is = refl;
}

pub shows_through : (a b c : SiteValue) → IsLater a b → IsLater b c
    → (shown : List Event) → SiteShows a shown → (events : List Event) × IsPrefix shown events × SiteShows c events
shows_through a b c p q shown shows =
    let first = p.shows shown shows in
    let second = q.shows first.0 first.2 in
    (second.0, prefix_through shown first.0 second.0 first.1 second.1, second.2)

pub later_on : (a b c : SiteValue) → IsLater a b → IsLater b c → IsLater a c
later_on a b c p q = record {
  looked = looked_through a.pass b.pass c.pass p.looked q.looked;
  shows = shows_through a b c p q;
  version_rises = omega (arith, p.version_rises, q.version_rises);
  name_is = q.name_is ∙ p.name_is;
  config_is = q.config_is ∙ p.config_is;
  leave_is = q.leave_is ∙ p.leave_is;
  folder_is = q.folder_is ∙ p.folder_is;
}
