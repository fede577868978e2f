-- The least site that lacks a book, as it is found.
use Rattle.std.specs.Prelude.{List, [], ◌∷◌, Option, None, Some, if◌then◌else◌}
use Rattle.node_core.specs.Requests.{registry}
use Rattle.audit.specs.Audits.{sender_in, site_before}
use Rattle.run_book.specs.Books.{Book, has_site}
use Rattle.run_book.specs.Entries.{Entry}
use Rattle.spawn_frame.specs.declared.site.Site.{Site}

-- the lesser of two sites
abbrev pub lesser : Site → Option Site → Site
lesser site None = site
lesser site (Some other) = if site_before site other then site else other

-- the lesser of two sites, where the first lacks a book
abbrev pub missed : List Book → Site → Option Site → Option Site
missed books site least = if has_site site books then least else Some (lesser site least)

-- the same, where there is a first one
abbrev pub missed_at : List Book → Option Site → Option Site → Option Site
missed_at books None least = least
missed_at books (Some site) least = missed books site least

-- the least that lacks a book of this one and the senders of what these entries deliver
abbrev pub missed_by : List Book → List Entry → Option Site → Option Site
missed_by books [] least = least
missed_by books (entry ∷ entries) least = missed_by books entries (missed_at books (sender_in entry.event) least)

-- the same of what the entries of these books deliver
abbrev pub missed_in : List Book → List Book → Option Site → Option Site
missed_in books [] least = least
missed_in books (book ∷ rest) least = missed_in books rest (missed_by books book.entries least)

-- the least that lacks a book of the registry and the senders of what the books deliver
abbrev pub least_lacking : List Book → Option Site
least_lacking books = missed_in books books (missed books registry None)
