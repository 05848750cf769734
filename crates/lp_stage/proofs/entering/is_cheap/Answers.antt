use Rattle.lp_stage.proofs.entering.is_cheap.Goals as goal

pub product-price-requires : goal.product-price-requires
product-price-requires c = (c.requires.0, c.requires.1, rw (← c.deref.ensures.value) at c.requires.2.product)
