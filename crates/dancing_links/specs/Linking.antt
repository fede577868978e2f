-- Links of nodes that are linked both ways, and the two lines by which a node leaves its column and comes back (dancing links, TAOCP 7.2.2.1).
use Rattle.std.specs.Prelude.{ℕ, List, [], ◌∷◌, slice_index_or, slice_set}
use Rattle.dancing_links.specs.declared.link.Link.{Link}

-- the link of a node
abbrev pub link_at : List Link → ℕ → Link
link_at m k = slice_index_or m k (record { up = 0; down = 0 })

-- the node above a node in its column, by its link
abbrev pub up_of : List Link → ℕ → ℕ
up_of m k = (link_at m k).up

-- the node below it
abbrev pub down_of : List Link → ℕ → ℕ
down_of m k = (link_at m k).down

-- the links once one upward link is written
unfoldable pub with_up : List Link → ℕ → ℕ → List Link
with_up m k u = slice_set m k (record { up = u; down = down_of m k })

-- the links once one downward link is written
unfoldable pub with_down : List Link → ℕ → ℕ → List Link
with_down m k d = slice_set m k (record { up = up_of m k; down = d })

-- the links once a node is out of its column: its neighbours know each other, and it still knows them (Knuth's L[R[x]] = L[x], R[L[x]] = R[x])
unfoldable pub unlinked : List Link → ℕ → List Link
unlinked m x = with_up (with_down m (up_of m x) (down_of m x)) (down_of m x) (up_of m x)

-- the links once its neighbours know a node again (L[R[x]] = x, R[L[x]] = x)
unfoldable pub relinked : List Link → ℕ → List Link
relinked m x = with_up (with_down m (up_of m x) x) (down_of m x) x

-- nodes taken out one after the other
abbrev pub unlinks : List Link → List ℕ → List Link
unlinks m [] = m
unlinks m (x ∷ xs) = unlinks (unlinked m x) xs

-- nodes put back, the last one first
abbrev pub relinks : List Link → List ℕ → List Link
relinks m [] = m
relinks m (x ∷ xs) = relinked (relinks m xs) x
