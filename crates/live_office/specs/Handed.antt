-- The book that an office hands back. (Our own.)
use Rattle.std.specs.Prelude.{Result, Ok, Err}
use Rattle.site_desk.specs.SiteView.{SiteView}
use Rattle.live_office.specs.declared.office.OfficeFault.{OfficeFault}

-- the book, with a fault or without
abbrev pub book_in : {K : Type 0} → Result (SiteView K) (SiteView K × OfficeFault) → SiteView K
book_in (Ok site) = site
book_in (Err (site, fault)) = site
