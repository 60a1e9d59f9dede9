use Rattle.std.proofs.Common.{ap, slice_get}
use Rattle.om_script.specs.Lines.{words_in}
use Rattle.om_script.specs.Keywords.{kinds_of}
use Rattle.om_script.proofs.Places.{name_fits}
use Rattle.om_script.proofs.NameTexts.{site_small}
use Rattle.om_script.proofs.script.Script.command_of.Goals as goal

pub variable_at-requires-in-Calloc : goal.variable_at-requires-in-Calloc
variable_at-requires-in-Calloc c = name_fits (kinds_of c.args.verb) (words_in c.args.words.now) 0 c.requires.fit (ap (λ v. slice_get (kinds_of v) 0) c.in-Calloc.is)

pub site_at-requires-in-Calloc : goal.site_at-requires-in-Calloc
site_at-requires-in-Calloc c = site_small (kinds_of c.args.verb) (words_in c.args.words.now) 3 c.requires.small (ap (λ v. slice_get (kinds_of v) 3) c.in-Calloc.is)

pub variable_at-requires-in-Reallocarray-2 : goal.variable_at-requires-in-Reallocarray-2
variable_at-requires-in-Reallocarray-2 c = name_fits (kinds_of c.args.verb) (words_in c.args.words.now) 1 c.requires.fit (ap (λ v. slice_get (kinds_of v) 1) c.in-Reallocarray.is)

pub site_at-requires-in-Reallocarray : goal.site_at-requires-in-Reallocarray
site_at-requires-in-Reallocarray c = site_small (kinds_of c.args.verb) (words_in c.args.words.now) 4 c.requires.small (ap (λ v. slice_get (kinds_of v) 4) c.in-Reallocarray.is)

pub variable_at-requires-in-Store : goal.variable_at-requires-in-Store
variable_at-requires-in-Store c = name_fits (kinds_of c.args.verb) (words_in c.args.words.now) 0 c.requires.fit (ap (λ v. slice_get (kinds_of v) 0) c.in-Store.is)

pub variable_at-requires-in-Post : goal.variable_at-requires-in-Post
variable_at-requires-in-Post c = name_fits (kinds_of c.args.verb) (words_in c.args.words.now) 1 c.requires.fit (ap (λ v. slice_get (kinds_of v) 1) c.in-Post.is)
