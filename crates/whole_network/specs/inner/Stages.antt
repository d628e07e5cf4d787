-- The stages of filling the table of least costs, over what the code reads: the lines of the sheet, the table of the genes and the arcs; the words are
-- those of the scratch.
-- Assumes nothing.
use Rattle.std.specs.Prelude.{◌≡◌, ◌≢◌, List, ℕ, ◌-◌, ◌*◌, ◌≤◌, length}
use Rattle.finite.specs.Tables.{at}
use Rattle.layout.specs.declared.Header.{Header}
use Rattle.layout.specs.declared.lines.Lines.{Lines}
use Rattle.layout.specs.declared.genes.Genes.{Genes}
use Rattle.layout.specs.inner.Genes.{left, right}
use Rattle.histories.specs.Histories.{Family}
use Rattle.histories.specs.inner.Rows.{Rows, Partly, Kept}
use Rattle.arcs.specs.inner.Arcs.{order}
use Rattle.whole_network.specs.declared.Kind.{Kind}
use Rattle.whole_network.specs.declared.Kind.TheVariants.{Tip, Pair}
use Rattle.whole_network.specs.declared.Row.{Row}
use Rattle.whole_network.specs.declared.source.Source.{Source}
use Rattle.whole_network.specs.declared.lent.LentSource.{LentSource}
pub use Rattle.whole_network.specs.inner.Families.{family_in, AcceptedIn}

-- the header of its lines
abbrev pub header : Source → Header
header f = f.lines.now.header

-- the gene family that the table is filled for
abbrev pub family : Source → Family
family f = family_in f.lines.now f.genes.now

abbrev pub lent_family : LentSource → Family
lent_family f = family_in f.lines.now f.genes.now

-- the words s have room for the table
abbrev pub HasRoomIn : Lines → List ℕ → Type 0
HasRoomIn l s = l.header.genes * l.header.nodes ≤ length s

abbrev pub HasRoom : Source → List ℕ → Type 0
HasRoom f s = HasRoomIn f.lines.now s

-- what the words of gene g depend on: of a leaf gene its species, of an inner gene where its children's rows begin
abbrev pub KindOf : Lines → Genes → ℕ → Kind → Type 0
KindOf l t g (Tip k) = (left t g ≡ 0) × (k ≡ at l.genes.species g)
KindOf l t g (Pair a b) = (left t g ≢ 0) × (a ≡ (left t g - 1) * l.header.nodes) × (b ≡ (right t g - 1) * l.header.nodes)

-- the row of a gene
pub record RowIn (l : Lines) (t : Genes) (row : Row) : Type 0 where
  pub low : 1 ≤ row.gene
  pub high : row.gene ≤ l.header.genes
  pub starts : row.start ≡ (row.gene - 1) * l.header.nodes
  pub kind : KindOf l t row.gene row.kind

abbrev pub RowOf : Source → Row → Type 0
RowOf f row = RowIn f.lines.now f.genes.now row

-- how far the words are those of the table, and that all others are as they were
abbrev pub RowsIn : LentSource → List ℕ → ℕ → Type 0
RowsIn f s g = Rows (lent_family f) s g

abbrev pub PartlyIn : LentSource → List ℕ → ℕ → ℕ → Type 0
PartlyIn f s g i = Partly (lent_family f) (order f.arcs.now) s g i

abbrev pub KeptIn : LentSource → (s t : List ℕ) → Type 0
KeptIn f s t = Kept (lent_family f) s t

-- the node at place i of the order is next in the row of a gene
pub record Next (f : LentSource) (s : List ℕ) (r : Row) (i : ℕ) : Type 0 where
  pub room : HasRoomIn f.lines.now s
  pub row : RowIn f.lines.now f.genes.now r
  pub low : 1 ≤ i
  pub high : i ≤ f.lines.now.header.nodes
  pub part : PartlyIn f s r.gene i
