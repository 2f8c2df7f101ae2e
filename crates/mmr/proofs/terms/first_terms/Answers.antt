use Rattle.mmr.proofs.Listing.{first_agreed, terms_cong}
use Rattle.mmr.proofs.terms.first_terms.Goals as goal

pub returns : goal.returns
returns c =
    terms_cong c.args.depth 8 c.from-a.ensures c.from-b.ensures c.from-c.ensures
    (first_agreed c.args.depth c.from-a.result c.from-b.result c.from-c.result _ _ _ _ _ _ _ c.raise-t1.ensures c.raise-t2.ensures c.raise-t3.ensures c.product-t4.ensures c.product-t5.ensures c.product-t6.ensures c.high-t7.ensures)
