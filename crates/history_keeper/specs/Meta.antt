-- The site that a history is of. (Our own.)
use Rattle.book_core.specs.Decision.{SiteConfig}
use Rattle.history_keeper.specs.declared.meta.Meta.{Meta}

-- the site that the numbers of the records are of
abbrev pub office_of : Meta → SiteConfig
office_of meta = record { me = meta.me; sites = meta.sites; limit = meta.limit }
