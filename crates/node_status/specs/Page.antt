-- Rows as they are shown in a browser: a page of HTML.
use Rattle.std.specs.Prelude.{ℕ, ◌==◌, List, [], ◌∷◌, ◌++◌, flat_map, codes, decimal, Option, Some, None, if◌then◌else◌}
use Rattle.node_status.specs.declared.rows.Mark.{Mark}
use Rattle.node_status.specs.declared.rows.Mark.TheVariants.{Title, Heading, Good, Busy, Bad, Note, Trouble}
use Rattle.node_status.specs.declared.status.Progress.{Progress}
use Rattle.node_status.specs.declared.page.TheConstants.{STYLE}
use Rattle.node_status.specs.Numbers.{percent}
use Rattle.node_status.specs.Rows.{ShownRow}

-- a byte of a text: `"` (34), `&` (38), `'` (39), `<` (60) and `>` (62) by a reference, any other as it is
abbrev pub reference : ℕ → List ℕ
reference b =
    if b == 34 then codes "&quot;" else if b == 38 then codes "&amp;" else if b == 39 then codes "&#39;" else if b == 60 then codes "&lt;" else if b == 62 then codes "&gt;" else b ∷ []

-- a text, as a browser reads it between tags
abbrev pub page_piece : List ℕ → List ℕ
page_piece text = flat_map reference text

-- a text between two pieces of HTML
abbrev pub element : List ℕ → List ℕ → List ℕ → List ℕ
element open_tag text close_tag = open_tag ++ page_piece text ++ close_tag

-- how far something is, if that is known, as a bar
abbrev pub bar : Option Progress → List ℕ
bar None = []
bar (Some p) = codes " <progress max=\"100\" value=\"" ++ decimal (percent p) ++ codes "\"></progress>"

-- the row of a folder or of a peer, after a tag
abbrev pub named_html : List ℕ → ShownRow → List ℕ
named_html tag r =
    tag ++ element (codes "<b>") r.name (codes "</b>") ++ element (codes " <span>") r.words (codes "</span>") ++ bar r.progress ++ codes "</p>\n"

abbrev pub marked_html : Mark → ShownRow → List ℕ
marked_html Title r =
    element (codes "<title>") r.name (codes "</title>\n") ++ element (codes "<h1>") r.name (codes "</h1>\n")
    ++ element (codes "<p class=\"made\">as of ") r.words (codes "</p>\n")
marked_html Heading r = element (codes "<h2>") r.name (codes "</h2>\n")
marked_html Good r = named_html (codes "<p class=\"row good\">") r
marked_html Busy r = named_html (codes "<p class=\"row busy\">") r
marked_html Bad r = named_html (codes "<p class=\"row bad\">") r
marked_html Note r = element (codes "<p class=\"note\">") r.words (codes "</p>\n")
marked_html Trouble r = element (codes "<p class=\"note trouble\">") r.words (codes "</p>\n")

abbrev pub row_html : ShownRow → List ℕ
row_html r = marked_html r.mark r

-- what comes before the rows: nothing may be loaded, and no script runs
unfoldable pub head_html : List ℕ
head_html =
    codes "<!DOCTYPE html>\n<html lang=\"en\">\n<meta charset=\"utf-8\">\n"
    ++ codes "<meta http-equiv=\"Content-Security-Policy\" content=\"default-src 'none'; style-src 'unsafe-inline'; base-uri 'none'; form-action 'none'\">\n"
    ++ codes "<meta http-equiv=\"refresh\" content=\"2\">\n<meta name=\"viewport\" content=\"width=device-width, initial-scale=1\">\n"
    ++ codes "<style>" ++ STYLE.now ++ codes "</style>\n"

abbrev pub page_html : List ShownRow → List ℕ
page_html rows = head_html ++ flat_map row_html rows ++ codes "</html>\n"
