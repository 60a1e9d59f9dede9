use Rattle.std.proofs.Common.{◌∙◌, sym, ap, map, string_bytes, Global}
use Rattle.om_script.specs.Keywords.{place_of}
use Rattle.om_script.proofs.Places.{place_found, place_lost}
use Rattle.om_script.proofs.script.Script.place_of.Goals as goal

pub returns-in-Some : goal.returns-in-Some
returns-in-Some c =
    place_found (string_bytes {Z = Global}) c.self.inside.names.keys c.text_of.result.now c.in-Some.place (sym c.get_index_of.ensures.index ∙ c.in-Some.is)
    ∙ ap (place_of (map (string_bytes {Z = Global}) c.self.inside.names.keys)) c.text_of.ensures
    ∙ ap (λ s. place_of s.names c.args.name.now) c.self.view_is

pub returns-in-None : goal.returns-in-None
returns-in-None c =
    c.len.ensures.len
    ∙ place_lost (string_bytes {Z = Global}) c.self.inside.names.keys c.text_of.result.now (sym c.get_index_of.ensures.index ∙ c.in-None.is)
    ∙ ap (place_of (map (string_bytes {Z = Global}) c.self.inside.names.keys)) c.text_of.ensures
    ∙ ap (λ s. place_of s.names c.args.name.now) c.self.view_is
